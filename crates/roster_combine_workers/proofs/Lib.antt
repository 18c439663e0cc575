pub mod PartLemmas
pub mod ReplayLemmas
pub mod RootLemmas
