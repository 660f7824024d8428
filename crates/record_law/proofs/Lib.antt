pub mod CanBe
pub mod Counted
pub mod RightRecords
