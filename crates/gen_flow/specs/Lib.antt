pub mod GeneratedCode
pub mod GeneratedFlow
