pub mod Text
pub mod Faults
pub mod Given
pub mod Known
