pub mod ByKind
pub mod Cross
pub mod Loops
pub mod Parted
pub mod Passes
pub mod Served
