pub mod Calls
pub mod Chain
pub mod Objects
pub mod Values
