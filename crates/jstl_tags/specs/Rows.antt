-- What a table of actions says of each.
use Rattle.std.specs.Prelude.{ℕ, List, map}
use Rattle.std.specs.Borrow.{Bor}
use Rattle.jstl_tags.specs.declared.core_name.CoreName.{CoreName}
use Rattle.jstl_tags.specs.declared.rows.Takes.{Takes}
use Rattle.jstl_tags.specs.declared.rows.Holds.{Holds}
use Rattle.jstl_tags.specs.declared.rows.Stands.{Stands}
use Rattle.jstl_tags.specs.declared.rows.Row.{Row as Made}

-- the attributes with what each takes, those that are needed, what the body holds, and where the action stands
pub record Row : Type 0 where
  pub attributes : List (List ℕ × Takes)
  pub required : List (List ℕ)
  pub holds : Holds
  pub stands : Stands

abbrev pub row : List (List ℕ × Takes) → List (List ℕ) → Holds → Stands → Row
row attributes required holds stands = record { attributes = attributes; required = required; holds = holds; stands = stands }

-- a row as the program has it
abbrev pub row_made : Made → Row
row_made made = row (map (λ attribute. (attribute.0.now, attribute.1)) made.attributes.now) (map (λ name. name.now) made.required.now) made.holds made.stands

-- the rows of a table as the program has it
abbrev pub rows_made : List (Bor (List ℕ) × (CoreName × Made)) → List (List ℕ × (CoreName × Row))
rows_made rows = map (λ found. (found.0.now, (found.1.0, row_made found.1.1))) rows
