pub mod Visits
pub mod Ready
