pub mod ActionLemmas
pub mod CallLemmas
pub mod ChoiceLemmas
pub mod ListLemmas
pub mod ValueLemmas
