pub mod Draft
pub mod Message
pub mod Taking
pub mod Telling
