mod Examples
pub mod Decimals
pub mod NamesOf
