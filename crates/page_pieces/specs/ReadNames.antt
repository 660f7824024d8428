-- Names as the program keeps them to be looked up. No public contract speaks of it.
use Rattle.std.specs.Prelude.{◌≡◌, ℕ, List, String}
use Rattle.std.specs.BTreeSet.{BTreeSet, contains_text}
use Rattle.std.specs.List.{flat_map, list_any}
use Rattle.std.specs.Str.{bytes_eq}

-- the set has these names
abbrev pub HasNames : {A : Type 0} → BTreeSet (String A) → List (List ℕ) → Type 0
HasNames known names = (name : List ℕ) → contains_text known name ≡ list_any (λ other. bytes_eq other name) names

-- the names of runs, one behind the other
abbrev pub names_in : (runs : List (List (List ℕ))) → List (List ℕ)
names_in runs = flat_map (λ run. run) runs
