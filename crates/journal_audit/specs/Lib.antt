pub mod Judge
pub mod Audit
pub mod Lines
pub mod Command
