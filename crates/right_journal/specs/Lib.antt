pub mod Right
pub mod Verdict
