pub mod Looks
pub mod Stepping
