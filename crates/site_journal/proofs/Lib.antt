pub mod Apart
pub mod DatumApart
pub mod Parts
pub mod WordsApart
pub mod Written
