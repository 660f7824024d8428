pub mod Digits
pub mod SentLemmas
