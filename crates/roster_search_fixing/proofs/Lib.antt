pub mod Fine
pub mod Totals
pub mod BoundLemmas
pub mod Narrowing
pub mod PropagationLemmas
pub mod Fixing
pub mod UnitLemmas
pub mod Decisions
