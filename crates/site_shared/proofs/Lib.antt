pub mod Waiting
pub mod Passes
pub mod SharedCross
