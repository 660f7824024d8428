pub mod AskedLemmas
pub mod DraftedLemmas
pub mod EditedLemmas
pub mod OwnLemmas
pub mod PlayLemmas
pub mod ShownLemmas
