-- The weight and the depth that are kept beside a list or a record.
use Rattle.std.specs.Prelude.{◌≡◌, ℕ, ◌-◌, ◌^◌, min}
use Rattle.pg_value.specs.Datum.{Datum}
use Rattle.pg_value.specs.Depth.{depth_of}
use Rattle.pg_value.specs.Weight.{weight_of}

-- these are the weight and the depth of the datum, which stop at the ends of their types
pub record IsMeasured (d : Datum) (weight depth : ℕ) : Type 0 where
  pub weighs : weight ≡ min (weight_of d) (2 ^ 64 - 1)
  pub reaches : depth ≡ min (depth_of d) (2 ^ 32 - 1)
