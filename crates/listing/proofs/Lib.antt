pub mod Leading
pub mod Ahead
pub mod SectionCode
