pub mod Fetches
pub mod Machines
pub mod Runs
pub mod Plans
pub mod Decimals
pub mod Paces
pub mod Draws
