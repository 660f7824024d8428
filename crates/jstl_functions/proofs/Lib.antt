pub mod Contents
pub mod Low
pub mod Places
pub mod Replaces
pub mod Searched
pub mod Splits
pub mod TooLong
