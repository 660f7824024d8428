pub use Rattle.jstl_tags.specs.declared.core_name.CoreName
pub mod Nodes
pub mod Views
