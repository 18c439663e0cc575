pub mod Fixed
pub mod Moves
pub mod Repaired
