-- In which block a key stands, or would. No public contract speaks of it.
use Rattle.std.specs.Prelude.{◌≡◌, ◌<◌, ◌+◌, ℕ, List, [], true, false, length, get_or}
use Rattle.pg_value.specs.Datum.{Datum}
use Rattle.pg_value.specs.ReadEntries.{is_behind}

-- the last block that doesn't begin above the key, or the first one
pub record IsPlaceOf (key : List ℕ) (blocks : List (List (List ℕ × Datum))) (i : ℕ) : Type 0 where
  pub within : i < length blocks
  pub from : 0 < i → is_behind key (get_or blocks i []) ≡ false
  pub to : i + 1 < length blocks → is_behind key (get_or blocks (i + 1) []) ≡ true
