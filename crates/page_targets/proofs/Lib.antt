pub mod Moves
mod Parts
mod Words
