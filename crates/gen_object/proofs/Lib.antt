mod Examples
mod Ranges
mod Names
mod Lengths
mod Steps
pub mod Sound
