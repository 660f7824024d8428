pub mod PageLemmas
pub mod MadeCross
