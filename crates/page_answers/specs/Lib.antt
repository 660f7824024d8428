pub use Rattle.compiled_pages.specs.Pages
pub use Rattle.compiled_pages.specs.Made
pub mod Answers
pub mod Dropped
pub mod Standing
pub mod Turns
