pub use Rattle.unit_words.specs.Unit
pub use Rattle.unit_words.specs.Needs
pub mod Made
pub mod MadeLaws
pub mod Pages
pub mod Stored
pub mod UnitLaws
