pub mod Acted
pub mod Calls
pub mod Clock
pub mod Faults
pub mod History
pub mod Memory
pub mod Steps
