pub mod Conversed
pub mod Cross
pub mod Idle
pub mod Ports
pub mod Rounds
pub mod Started
