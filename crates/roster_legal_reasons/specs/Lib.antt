pub mod Bounds
pub mod Runs
pub mod Amounts
pub mod Reasons
