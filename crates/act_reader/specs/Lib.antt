pub mod Before
pub mod Contents
pub mod Parts
pub mod Roles
