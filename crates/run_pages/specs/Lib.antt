pub use Rattle.page_machine.specs.declared.running.RunEnd
pub use Rattle.page_machine.specs.Run
pub mod Laws
pub mod Meant
