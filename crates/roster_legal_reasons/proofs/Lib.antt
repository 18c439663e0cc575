pub mod Elements
pub mod LimitsTold
pub mod Turns
