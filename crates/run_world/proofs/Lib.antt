pub mod Adds
pub mod Exits
pub mod Knowing
pub mod Parts
pub mod SeatLemmas
