pub mod PlacedLemmas
mod MoreLemmas
mod FunctionLemmas
mod ValueLemmas
mod CallLemmas
