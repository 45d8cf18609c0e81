pub mod StopLemmas
pub mod MarkLemmas
pub mod BranchLemmas
pub mod WriteLemmas
pub mod AccessLemmas
pub mod LiteralLemmas
pub mod ListLemmas
pub mod MemoryLemmas
pub mod PairLemmas
pub mod MultiLemmas
pub mod OrdinaryLemmas
pub mod ResultLemmas
pub mod NumberLemmas
pub mod PlainImages
mod LinkChecks
mod LinkLists
mod LinkComparing
mod LinkEach
mod CallExample
mod WeakExample
mod HalvesExample
mod NamesExample
mod Examples
