-- What stands at the front of a text: white space, names and marks.
pub mod Before
pub mod Longest
pub mod MarkLoop
pub mod Marks
pub mod Names
pub mod Rows
pub mod TagNames
pub mod Template
