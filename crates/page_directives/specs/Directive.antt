-- A directive as it was read, and what its attributes say.
use Rattle.std.specs.Prelude.{ℕ, Bool, not, ◌==◌, ◌&&◌, List, [], ◌∷◌, Option, Some, None, if◌then◌else◌}
use Rattle.std.specs.List.{prefix_len}
use Rattle.std.specs.Str.{bytes_eq}
use Rattle.pg_text.specs.declared.place.Place.{Place}
use Rattle.page_pieces.specs.declared.attribute.Attribute.{Attribute}

pub record Directive : Type 0 where
  pub name : List ℕ
  pub attributes : List Attribute
  pub place : Place

-- the directive has that name
abbrev pub is_named : List ℕ → Directive → Bool
is_named name d = bytes_eq d.name name

-- the directives stand at the same byte of the same file
abbrev pub is_at_same : Directive → Directive → Bool
is_at_same d other = (other.place.byte == d.place.byte) && bytes_eq other.place.file d.place.file

-- how many directives of a reading stand before this one, which is known there by its file and byte: all of them where it doesn't stand there
abbrev pub before_in : List Directive → Directive → ℕ
before_in reading d = prefix_len (λ other. not (is_at_same d other)) reading

-- the row of a name in a table
abbrev pub row_of : {A : Type 0} → List ℕ → List (List ℕ × A) → Option A
row_of name [] = None
row_of name (row ∷ rows) = if bytes_eq row.0 name then Some row.1 else row_of name rows
