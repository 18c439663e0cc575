pub mod Begun
pub mod Counting
pub mod Kept
pub mod Lines
pub mod Values
