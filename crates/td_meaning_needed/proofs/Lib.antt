pub mod NeededLemmas
