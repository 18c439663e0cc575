pub mod Asked
pub mod Status
pub mod Nearest
pub mod Outcomes
