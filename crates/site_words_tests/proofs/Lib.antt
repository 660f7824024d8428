pub mod AtLimitsCases
pub mod WorkedCases
