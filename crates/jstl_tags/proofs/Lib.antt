pub mod NameLemmas
pub mod NamesFaults
pub mod PartLemmas
pub mod RowLemmas
pub mod StandingLemmas
