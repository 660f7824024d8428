pub mod Judges
pub mod Audits
pub mod Commands
