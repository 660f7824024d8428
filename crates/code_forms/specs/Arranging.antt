-- How wanted values are found among named ones.
use Rattle.std.specs.Prelude.{ℕ, ◌+◌, ◌-◌, Bool, true, false, List, [], ◌∷◌, ◌++◌, length, take, drop, Option, Some, None, suc}
use Rattle.std.specs.Str.{bytes_eq}
use Rattle.pg_text.specs.declared.place.Place.{Place}
use Rattle.pg_value.specs.declared.value.Value.TheVariants as value
use Rattle.page_code.specs.Shapes.{cell, up}
use Rattle.page_code.specs.declared.code.Cell.{Cell}
use Rattle.page_code.specs.declared.instr.Instr.TheVariants as instr
use Rattle.page_code.specs.declared.op.Op.TheVariants as op
use Rattle.page_code.specs.declared.shape.Shape.{Shape}
use Rattle.code_forms.specs.Codes.{brought_code}

-- the place one further on, or the first where it is this one
abbrev pub place_from : Option ℕ → Bool → Option ℕ
place_from (Some at) same = Some (suc at)
place_from None true = Some 0
place_from None false = None

-- where the last of these names is this one
abbrev pub last_place : List ℕ → List (List ℕ) → Option ℕ
last_place w [] = None
last_place w (n ∷ names) = place_from (last_place w names) (bytes_eq w n)

-- a place where it is the one, else what was found before
abbrev pub found_with : (at : ℕ) → (found : Option ℕ) → Bool → Option ℕ
found_with at found true = Some at
found_with at found false = found

-- the names without the one at a place
abbrev pub left_names : List (List ℕ) → Option ℕ → List (List ℕ)
left_names names None = names
left_names names (Some at) = take at names ++ drop (suc at) names

-- what brings the value at a place above the others, or null where there is none
abbrev pub wanted_code : Shape → Place → List (List ℕ) → (done : ℕ) → Option ℕ → List Cell
wanted_code sh place names done None = cell (up (length names + done) sh) place (instr.Op (op.Const value.Null)) ∷ []
wanted_code sh place names done (Some at) = brought_code (up (length names + done) sh) place (length names - suc at + done)
