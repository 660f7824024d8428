mod UserLemmas
mod IndexLemmas
mod DirtyLemmas
mod PlaceOfUsers
pub mod TakenLemmas
mod TogetherLemmas
