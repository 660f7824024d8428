pub mod Addressing
pub mod Bodies
pub mod Choosing
pub mod Enclosing
pub mod Evaluations
pub mod Outputs
