-- The value of an attribute: the quote that ends it, its escapes and its parts.
pub mod Escapes
pub mod Marks
pub mod Meaning
pub mod PartMeaning
pub mod PartSteps
pub mod Parts
pub mod QuoteLoop
pub mod Quotes
pub mod Signs
