pub mod Words
pub mod Page
pub mod Check
