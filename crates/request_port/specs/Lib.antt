pub use Rattle.page_answers.specs.Dropped
pub mod Asked
pub mod Finding
pub mod Leading
pub mod LeadingLaws
