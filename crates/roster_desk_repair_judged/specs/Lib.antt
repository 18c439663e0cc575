pub mod Broken
pub mod Terms
