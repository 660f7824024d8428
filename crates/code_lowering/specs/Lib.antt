pub mod Expressions
pub mod Laws
pub mod Lowering
pub mod Programs
pub mod Values
