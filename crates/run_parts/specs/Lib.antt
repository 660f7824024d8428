pub mod Answers
pub mod Exports
pub mod Given
pub mod Objects
pub mod Operations
pub mod Properties
pub mod Records
