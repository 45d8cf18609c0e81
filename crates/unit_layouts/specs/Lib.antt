pub mod Layable
