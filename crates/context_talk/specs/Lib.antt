pub mod Among
pub mod Contexts
