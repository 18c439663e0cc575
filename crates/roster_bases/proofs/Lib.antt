pub mod BaseLemmas
pub mod Picks
pub mod Unites
pub mod Homes
pub mod Orders
