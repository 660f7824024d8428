pub mod Gathered
pub mod Halving
pub mod Inverses
pub mod JsonLemmas
pub mod Lengths
pub mod Lookups
pub mod Sizes
pub mod SameEntries
pub mod Falls
pub mod Order
pub mod BlockLoops
pub mod BlockPlaces
mod Worked
mod WorkedJson
pub mod Places
pub mod PutBack
pub mod Placed
