pub mod HeadLemmas
pub mod TurnLemmas
