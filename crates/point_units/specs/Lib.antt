pub mod Scratch
pub mod Spots
pub mod Units
