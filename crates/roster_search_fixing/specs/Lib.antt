pub mod Bounds
pub mod Propagation
pub mod Tightening
pub mod Splits
pub mod Inside
