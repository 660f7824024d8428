pub mod ArrangingLemmas
