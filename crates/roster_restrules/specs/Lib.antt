pub mod Block
pub mod Busy
pub mod Times
