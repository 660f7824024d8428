pub mod Kinds
pub mod Refs
