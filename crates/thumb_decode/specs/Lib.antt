pub mod Groups
pub mod KnownBits
