pub use Rattle.page_meaning.specs.Page
pub use Rattle.page_meaning.specs.Context
pub mod Kinds
pub mod Laws
pub mod Named
pub mod Shape
pub mod Worked
