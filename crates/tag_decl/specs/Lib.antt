pub mod Declare
pub mod Faults
pub mod Names
pub mod ReadFirsts
pub mod ReadNames
pub mod Required
