mod Least
mod Rising
mod AgreeNames
mod AgreeWalk
pub mod AgreeUnit
pub mod LeastNames
