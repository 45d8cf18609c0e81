pub mod Lost
pub mod Known
pub mod Flagged
pub mod WrittenBack
pub mod Copied
pub mod Summed
pub mod Throughs
pub mod ThroughCoded
