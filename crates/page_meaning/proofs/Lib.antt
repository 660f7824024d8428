mod Actions
mod Answering
mod Chains
mod EveryLaw
mod EveryPart
pub mod Growing
mod Nested
mod Orderly
mod Values
mod Words
