-- How a directive, a start and an end are read, and that this is what the grammar says.
pub mod AttributeNames
pub mod Attributes
pub mod Breaks
pub mod Directives
pub mod Ends
pub mod Fronts
pub mod Loop
pub mod Marks
pub mod Meaning
pub mod Runs
pub mod Starts
pub mod Steps
pub mod WalkRuns
pub mod Walks
