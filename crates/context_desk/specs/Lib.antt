pub mod Each
pub mod Several
pub mod Shares
