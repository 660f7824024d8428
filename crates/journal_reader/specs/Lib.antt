pub mod Acts
pub mod Frames
pub mod Next
pub mod Reads
pub mod Values
