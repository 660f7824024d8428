pub mod BufferLemmas
pub mod FaultLemmas
pub mod FirstLemmas
pub mod GivenLemmas
pub mod KnownLemmas
pub mod TableLemmas
pub mod TokenLemmas
