pub mod SpotFacts
pub mod KindFacts
pub mod ObjectFacts
pub mod PlaceOrder
pub mod MarkFacts
mod SpanFacts
mod FaultFacts
mod RangeFacts
pub mod RangeOrder
pub mod InOrder
pub mod OneRanges
