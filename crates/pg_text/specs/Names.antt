-- Lists of distinct names in byte order.
use Rattle.std.specs.Prelude.{ℕ, suc, Bool, List, [], ◌∷◌, filter, not, Result, Ok, Err}
use Rattle.std.specs.Cmp.Lexicographic.{slice_cmp}
use Rattle.std.specs.List.{list_any}
use Rattle.std.specs.List.Sorted.{IsStrictlySortedBy}
use Rattle.std.specs.Ordering.{nat_cmp, match_ordering}
use Rattle.std.specs.Str.{bytes_eq}

-- the names are distinct, and rise in byte order
abbrev pub AreInOrder : List (List ℕ) → Type 0
AreInOrder names = IsStrictlySortedBy (slice_cmp nat_cmp) names

-- the name is among them
abbrev pub has_name : List ℕ → List (List ℕ) → Bool
has_name name names = list_any (bytes_eq name) names

-- the names in order, with this one
abbrev pub with_name : List ℕ → List (List ℕ) → List (List ℕ)
with_name name [] = name ∷ []
with_name name (n ∷ names) = match_ordering (slice_cmp nat_cmp name n) (name ∷ n ∷ names) (n ∷ names) (n ∷ with_name name names)

-- the names without this one
abbrev pub without_name : List ℕ → List (List ℕ) → List (List ℕ)
without_name name names = filter (λ n. not (bytes_eq n name)) names

-- one place further
abbrev pub next_place : Result ℕ ℕ → Result ℕ ℕ
next_place (Ok place) = Ok (suc place)
next_place (Err place) = Err (suc place)

-- where the name stands among names in order, or where it would
abbrev pub place_in : List ℕ → List (List ℕ) → Result ℕ ℕ
place_in name [] = Err 0
place_in name (n ∷ names) = match_ordering (slice_cmp nat_cmp name n) (Err 0) (Ok 0) (next_place (place_in name names))
