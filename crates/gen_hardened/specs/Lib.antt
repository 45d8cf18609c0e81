pub mod GeneratedHardening
