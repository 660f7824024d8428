pub mod FirstLemmas
pub mod NameLemmas
