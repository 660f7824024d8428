pub mod Numbers
pub mod Onward
pub mod Rounds
pub mod Talked
