pub mod Points
pub mod Lives
pub mod Continuing
pub mod Meeting
pub mod Units
