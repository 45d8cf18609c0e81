pub mod Listings
pub mod ListingSteps
