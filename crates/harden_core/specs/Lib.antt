pub mod Denials
pub mod Hardening
