pub mod ExploredLemmas
