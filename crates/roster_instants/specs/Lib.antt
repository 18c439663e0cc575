pub mod Rule
pub mod Refusals
pub mod Laws
