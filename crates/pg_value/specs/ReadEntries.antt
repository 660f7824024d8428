-- The entries of a record, as the program keeps them. No public contract speaks of it.
use Rattle.std.specs.Prelude.{◌<◌, ◌++◌, ◌^◌, ℕ, List, [], ◌∷◌, Bool, false, length, map}
use Rattle.std.specs.Cmp.Lexicographic.{slice_cmp}
use Rattle.std.specs.List.{AllByRecursion}
use Rattle.std.specs.Ordering.{is_lt, nat_cmp}
use Rattle.pg_value.specs.Attrs.{AreInOrder}
use Rattle.pg_value.specs.Datum.{Datum}
use Rattle.pg_value.specs.Value.{entry_of}
use Rattle.pg_value.specs.declared.entries.Entries.{Entries}
use Rattle.pg_value.specs.declared.entries.Entries.TheVariants as entries

-- those of blocks, one block after the other
abbrev pub joined : List (List (List ℕ × Datum)) → List (List ℕ × Datum)
joined [] = []
joined (b ∷ bs) = b ++ joined bs

-- few stand in a list, many in blocks
abbrev pub in_entries : Entries → List (List ℕ × Datum)
in_entries (entries.Few es) = map entry_of es.items
in_entries (entries.Many bs) = joined bs.items

-- no block is empty
abbrev pub AreFilled : List (List (List ℕ × Datum)) → Type 0
AreFilled bs = AllByRecursion (λ b. 0 < length b) bs

-- the keys of blocks rise through all of them, and their entries can be counted
pub record AreBlocks (bs : List (List (List ℕ × Datum))) : Type 0 where
  pub order : AreInOrder (joined bs)
  pub filled : AreFilled bs
  pub few : length (joined bs) < 2 ^ 63

abbrev pub AreKept : Entries → Type 0
AreKept (entries.Few es) = AreInOrder (map entry_of es.items)
AreKept (entries.Many bs) = AreBlocks bs.items

-- whether a block begins above the key
abbrev pub is_behind : List ℕ → List (List ℕ × Datum) → Bool
is_behind key [] = false
is_behind key (e ∷ es) = is_lt (slice_cmp nat_cmp key e.0)
