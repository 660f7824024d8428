pub mod RightRecord
