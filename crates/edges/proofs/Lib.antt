pub mod Own
pub mod ToldBytes
