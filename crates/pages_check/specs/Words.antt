-- The words of the command `check`.
use Rattle.std.specs.Prelude.{ℕ, Bool, false, not, ◌&&◌, List, [], ◌∷◌, codes, nat_eq, Option, Some, None, if◌then◌else◌}
use Rattle.std.specs.List.{starts_with}
use Rattle.std.specs.Option.{option_and_then}
use Rattle.std.specs.Result.{result_ok}
use Rattle.std.specs.Str.{bytes_eq}
use Rattle.pg_text.specs.Path.{resolved, segments}

-- the first word is `check`
abbrev pub is_check : List (List ℕ) → Bool
is_check [] = false
is_check (word ∷ words) = bytes_eq word (codes "check")

-- the words are `check` and one more, which doesn't begin with a hyphen
abbrev pub path_word : List (List ℕ) → Option (List ℕ)
path_word [] = None
path_word (word ∷ []) = None
path_word (word ∷ path ∷ []) = if bytes_eq word (codes "check") && not (starts_with nat_eq path (codes "-")) then Some path else None
path_word (word ∷ path ∷ next ∷ words) = None

-- the path that the words ask for, where they are those of this command
abbrev pub path_asked : List (List ℕ) → Option (List ℕ)
path_asked words = option_and_then (λ word. result_ok (resolved (segments None word))) (path_word words)
