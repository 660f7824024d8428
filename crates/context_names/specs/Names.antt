-- The names of contexts.
use Rattle.std.specs.Prelude.{ℕ, Bool, true, ◌&&◌, ◌||◌, not, List, [], ◌∷◌, length, nat_le, Option, Some, None, if◌then◌else◌, ◌==◌}
use Rattle.std.specs.Int.{is_in_range}
use Rattle.std.specs.List.{list_all, list_any, slice_split}
use Rattle.std.specs.Str.{bytes_eq}
use Rattle.context_names.specs.declared.limits.TheConstants.{MAX_CONTEXTS, MAX_CONTEXT_NAME_BYTES}

-- a lower-case letter or a digit of ASCII
abbrev pub is_sign : ℕ → Bool
is_sign b = is_in_range 97 122 b || is_in_range 48 57 b

-- a text can be a name: it has 1 to 32 of them, and nothing else
abbrev pub is_name : List ℕ → Bool
is_name text = nat_le 1 (length text) && (nat_le (length text) MAX_CONTEXT_NAME_BYTES && list_all is_sign text)

-- no two of them are the same
abbrev pub are_distinct : List (List ℕ) → Bool
are_distinct [] = true
are_distinct (name ∷ names) = not (list_any (λ other. bytes_eq other name) names) && are_distinct names

-- these are the names of contexts: 1 to 16 different ones
abbrev pub are_names : List (List ℕ) → Bool
are_names names =
    nat_le 1 (length names) && (nat_le (length names) MAX_CONTEXTS && (list_all is_name names && are_distinct names))

abbrev pub is_comma : ℕ → Bool
is_comma b = b == 44

-- the words in what is left of a list, where anything is
abbrev pub words_in : Option (List ℕ) → List (List ℕ)
words_in None = []
words_in (Some text) = slice_split is_comma text

-- the names that a word tells, joined by commas
abbrev pub names_in : List ℕ → Option (List (List ℕ))
names_in word = if are_names (slice_split is_comma word) then Some (slice_split is_comma word) else None
