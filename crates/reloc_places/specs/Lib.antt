pub mod Starts
pub mod Relocations
pub mod Placement
pub mod Tables
pub mod DecodedPlaces
