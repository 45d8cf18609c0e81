pub mod Encoding
pub mod HalfCodes
pub mod FullCodes
pub mod HasFull
