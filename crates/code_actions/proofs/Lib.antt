pub mod Actions
pub mod Choosings
