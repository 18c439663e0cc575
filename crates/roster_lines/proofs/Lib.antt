pub mod Listed
pub mod Marks
pub mod WantedLemmas
pub mod Stems
pub mod Judged
pub mod Made
pub mod WantedTables
