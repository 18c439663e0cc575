pub mod PricedLines
pub mod Placing
pub mod OfNode
pub mod Behind
pub mod Summed
