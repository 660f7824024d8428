pub mod Once
pub mod Recorded
pub mod Words
