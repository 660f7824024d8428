pub mod Calls
pub mod Fits
pub mod Names
pub mod Ops
pub mod Shapes
pub mod Tables
