pub mod Lines
pub mod Making
pub mod MakeTexts
pub mod MakeSteps
