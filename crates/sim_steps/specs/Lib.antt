pub mod Facts
pub mod Steps
pub mod Example
pub mod Met
pub mod Units
pub mod Placed
