pub mod Found
pub mod Pages
pub mod Run
pub mod Turn
