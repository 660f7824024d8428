pub mod Deps
