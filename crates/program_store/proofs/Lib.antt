mod KeptLemmas
mod NeedLemmas
pub mod StoreCross
