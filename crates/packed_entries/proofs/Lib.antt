pub mod PackedCross
