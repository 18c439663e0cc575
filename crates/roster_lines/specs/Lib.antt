pub mod Between
pub mod SomeLines
pub mod Listing
pub mod Made
pub mod TableFaults
pub mod WantedTables
pub mod AllPairs
