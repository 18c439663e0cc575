pub mod View
pub mod Set
pub mod Bits
