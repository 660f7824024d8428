pub mod CallLemmas
pub mod ChainLemmas
pub mod ListLemmas
pub mod NameLemmas
pub mod OperandLemmas
pub mod PartLemmas
pub mod ValueLemmas
