pub mod OpenLemmas
pub mod Alike
