pub mod Asked
pub mod Prepared
pub mod Site
pub mod Told
