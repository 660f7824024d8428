pub mod AloneLemmas
pub mod GrownLemmas
