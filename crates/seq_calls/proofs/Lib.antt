pub mod Coded
pub mod Done
