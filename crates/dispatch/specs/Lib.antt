pub mod Begun
pub mod Opened
pub mod Refused
pub mod Replied
pub mod Started
