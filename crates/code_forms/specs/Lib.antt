pub mod Forms
pub mod Codes
pub mod Arranging
