pub mod NameLists
pub mod Objects
pub mod Properties
pub mod RoundCode
pub mod Rounds
