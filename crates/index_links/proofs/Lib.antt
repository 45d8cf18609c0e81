pub mod Places
pub mod ChainFacts
pub mod QueueFacts
pub mod PairFacts
pub mod OrderFacts
