pub mod Numbers
pub mod Living
pub mod Continuing
pub mod Meeting
pub mod Units
