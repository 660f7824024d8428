pub mod AtLimits
pub mod Run
pub mod Worked
