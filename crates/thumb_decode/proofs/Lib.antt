pub mod DataRows
pub mod KnownBits
pub mod Narrow
pub mod Powers
pub mod Constants
mod Examples
mod FullExamples
