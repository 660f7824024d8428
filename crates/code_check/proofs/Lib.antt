pub mod Behind
pub mod Decided
pub mod Equal
