pub mod Bases
pub mod Homes
pub mod United
