pub mod Asked
pub mod Limits
pub mod Parts
pub mod Told
pub mod Words
