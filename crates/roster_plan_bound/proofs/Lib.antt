mod ChainLemmas
mod LeastLemmas
mod RowLemmas
mod ShareLemmas
mod TermLemmas
pub mod GapLemmas
pub mod UnrestedLemmas
pub mod RankedLemmas
pub mod SpanLemmas
pub mod OffLemmas
pub mod BehindLemmas
mod TimelineLemmas
pub mod SeekLemmas
pub mod LoadLemmas
pub mod ProductLemmas
pub mod TargetLemmas
pub mod ProspectLemmas
