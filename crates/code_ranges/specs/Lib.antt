pub mod CodeRanges
pub mod Spans
pub mod Spots
pub mod AllRanges
