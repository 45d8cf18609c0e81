pub mod Links
pub mod Queues
pub mod Chains
pub mod Orders
