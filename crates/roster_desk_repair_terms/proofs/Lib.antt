pub mod Wholes
pub mod Kept
pub mod Costs
