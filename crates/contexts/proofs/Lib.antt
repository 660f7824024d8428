pub mod ApartLemmas
pub mod Loops
