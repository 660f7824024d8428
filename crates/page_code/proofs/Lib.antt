mod Levels
mod TableLemmas
