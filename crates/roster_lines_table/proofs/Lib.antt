pub mod Preorder
pub mod TreeLemmas
pub mod Fronts
pub mod Walk
pub mod Cuts
pub mod Lists
pub mod TableLemmas
pub mod Numbers
