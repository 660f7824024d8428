pub mod Lived
pub mod Applies
pub mod Answered
pub mod ReadSite
pub mod ReadGiven
pub mod Solo
