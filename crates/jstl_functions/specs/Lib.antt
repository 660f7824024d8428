pub mod Functions
pub mod Texts
