-- What stands open while a code runs: its values, loops and catches.
use Rattle.std.specs.Prelude.{ℕ, List, [], Option}
use Rattle.pg_value.specs.Datum.{Datum}
use Rattle.page_meaning.specs.Attributes.{Values}
use Rattle.page_meaning.specs.Rounds.{Round}

-- an open loop: its variables, the values that it was given, and the rounds that are still to come
pub record Loop : Type 0 where
  pub variable : Option (List ℕ)
  pub status : Option (List ℕ)
  pub values : Values
  pub rounds : List Round

-- an open catch: where a fault goes on, and how many values, kept bodies and loops there were at its start
pub record OpenCatch : Type 0 where
  pub to : ℕ
  pub values : ℕ
  pub bodies : ℕ
  pub loops : ℕ

-- how many levels are left below the code, its values, the topmost first, and its open loops and catches, the innermost first
pub record Open : Type 0 where
  pub left : ℕ
  pub stack : List Datum
  pub loops : List Loop
  pub catches : List OpenCatch

-- at a code's beginning nothing stands open
abbrev pub fresh_open : (left : ℕ) → Open
fresh_open left = record { left = left; stack = []; loops = []; catches = [] }
