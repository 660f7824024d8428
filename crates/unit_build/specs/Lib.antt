pub mod ReadFound
pub mod ReadCore
pub mod ReadSteps
pub mod ReadWalk
pub mod MadeSteps
