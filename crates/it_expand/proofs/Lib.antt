pub mod Coded
pub mod Before
