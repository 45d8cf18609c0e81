pub mod LongestFacts
pub mod PhaseFacts
pub mod ShortUnits
