pub mod Grown
pub mod Parts
pub mod Said
pub mod Shared
