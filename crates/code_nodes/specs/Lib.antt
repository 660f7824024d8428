pub mod Actions
pub mod Calls
pub mod Params
pub mod Values
