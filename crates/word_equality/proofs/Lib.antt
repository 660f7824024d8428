pub mod SameLists
pub mod SameEntries
