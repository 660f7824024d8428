pub mod KeptBases
pub mod Offers
pub mod Entries
pub mod Histories
