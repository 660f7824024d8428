-- The entries of a record.
use Rattle.std.specs.Prelude.{ℕ, zero, suc, List, [], ◌∷◌, filter, map, reverse, not, Option, Result}
use Rattle.std.specs.BTreeMap.{insert_entry}
use Rattle.std.specs.Cmp.Lexicographic.{slice_cmp}
use Rattle.std.specs.List.Sorted.{IsStrictlySortedBy}
use Rattle.std.specs.Map.{keys_of, lookup}
use Rattle.std.specs.Ordering.{nat_cmp}
use Rattle.std.specs.Str.{bytes_eq}
use Rattle.pg_text.specs.Names.{place_in}
use Rattle.pg_value.specs.Datum.{Datum}

-- the keys are distinct, and rise in byte order
abbrev pub AreInOrder : List (List ℕ × Datum) → Type 0
AreInOrder entries = IsStrictlySortedBy (slice_cmp nat_cmp) (keys_of entries)

-- what stands under the key
abbrev pub entry_at : List ℕ → List (List ℕ × Datum) → Option Datum
entry_at key entries = lookup (bytes_eq key) entries

-- the entries in order, with the datum under the key
abbrev pub with_entry : List (List ℕ × Datum) → List ℕ → Datum → List (List ℕ × Datum)
with_entry entries key d = insert_entry (slice_cmp nat_cmp) entries key d

-- the entries with the datum at a place, under the key that stands there
abbrev pub with_value_at : List (List ℕ × Datum) → ℕ → Datum → List (List ℕ × Datum)
with_value_at [] at d = []
with_value_at (e ∷ es) zero d = (e.0, d) ∷ es
with_value_at (e ∷ es) (suc at) d = e ∷ with_value_at es at d

-- the entries under other keys
abbrev pub without_entry : List (List ℕ × Datum) → List ℕ → List (List ℕ × Datum)
without_entry entries key = filter (λ e. not (bytes_eq key e.0)) entries

-- where the key stands among entries in order, or where it would
abbrev pub place_of : {A : Type 0} → List ℕ → List (List ℕ × A) → Result ℕ ℕ
place_of key entries = place_in key (map (λ e. e.0) entries)

-- the entries, with the given ones put in one after the other
abbrev pub with_entries : List (List ℕ × Datum) → List (List ℕ × Datum) → List (List ℕ × Datum)
with_entries entries [] = entries
with_entries entries (e ∷ es) = with_entries (with_entry entries e.0 e.1) es

-- the given entries in order, of equal keys the last one
abbrev pub of_entries : List (List ℕ × Datum) → List (List ℕ × Datum)
of_entries es = with_entries [] es

-- the given entries in order, of equal keys the first one: they are put in from the last to the first
abbrev pub of_first_entries : List (List ℕ × Datum) → List (List ℕ × Datum)
of_first_entries es = of_entries (reverse es)
