-- Where an expression ends.
pub mod Ends
pub mod Found
pub mod Loop
