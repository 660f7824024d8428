pub mod Stage
pub mod StageLaws
pub mod Keeping
