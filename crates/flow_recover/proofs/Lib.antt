pub mod NodeOrder
pub mod FoundFacts
pub mod GainFacts
pub mod VisitFacts
pub mod Searches
pub mod LiteralFacts
mod DeadEndFacts
pub mod AimFacts
pub mod WalkFacts
pub mod NodePlaces
pub mod OneState
pub mod PointCount
pub mod EdgeFacts
pub mod PointFacts
pub mod RightRelocs
pub mod NamedFacts
pub mod RelocSpots
mod AnswerFacts
mod BlockFacts
mod ClaimFacts
mod NodeFaultFacts
mod FlowFaultFacts
pub mod EntryIndexes
pub mod WholeFlowFacts
pub mod OneFlow
mod CodeStops
pub mod FlowPoints
