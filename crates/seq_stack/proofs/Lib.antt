pub mod Registers
pub mod MovedLists
pub mod Popped
pub mod Stepped
pub mod Built
