pub mod Pairs
pub mod Cuts
pub mod Fronts
pub mod Arrangements
pub mod FirstWords
pub mod Meanings
pub mod NumberTexts
pub mod OneMeaning
pub mod Schedules
mod WordExamples
pub mod FileWords
