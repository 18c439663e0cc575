pub mod Parts
pub mod Replays
