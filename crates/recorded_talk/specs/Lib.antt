pub mod Talked
pub mod Rerun
