pub mod Asking
pub mod Ending
pub mod Files
pub mod Keeping
pub mod Program
