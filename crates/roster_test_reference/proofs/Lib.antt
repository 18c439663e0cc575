pub mod Fronts
pub mod GivenLine
pub mod WalkLemmas
