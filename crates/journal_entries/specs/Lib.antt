pub mod Bases
pub mod Again
