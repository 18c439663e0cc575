pub mod Cells
pub mod Changed
pub mod Days
pub mod Differences
pub mod Having
pub mod Rows
pub mod Sums
