pub mod Words
pub mod Arranged
pub mod Meanings
pub mod Tasks
pub mod Commands
