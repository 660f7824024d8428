pub mod DraftLemmas
pub mod TargetLemmas
pub mod TextLemmas
pub mod TakingLemmas
