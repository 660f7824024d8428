pub mod Laws
pub mod Own
pub mod Previewed
pub mod Shown
