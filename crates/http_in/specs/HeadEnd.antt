-- Where the head of a request ends.
use Rattle.std.specs.Prelude.{ℕ, ◌+◌, ◌-◌, ◌&&◌, List, [], ◌∷◌, length, take, Option, Some, None, ◌==◌, nat_eq, if◌then◌else◌}
use Rattle.std.specs.List.{starts_with}
use Rattle.std.specs.Option.{option_map}
use Rattle.http_in.specs.declared.limits.TheConstants.{MAX_HEAD_BYTES}

-- what ends a head: CR LF at the end of its last line, and CR LF for an empty line
abbrev pub empty_line : List ℕ
empty_line = 13 ∷ 10 ∷ 13 ∷ 10 ∷ []

-- the bytes after the CR LF pairs at the front
abbrev pub skip_pairs : List ℕ → List ℕ
skip_pairs [] = []
skip_pairs (b ∷ []) = b ∷ []
skip_pairs (b ∷ c ∷ bytes) = if (b == 13) && (c == 10) then skip_pairs bytes else b ∷ c ∷ bytes

-- the length of the shortest front that ends with an empty line
abbrev pub through_empty_line : List ℕ → Option ℕ
through_empty_line [] = None
through_empty_line (b ∷ bytes) = if starts_with nat_eq (b ∷ bytes) empty_line then Some 4 else option_map (λ n. n + 1) (through_empty_line bytes)

-- the length of the head at the front, with the pairs before its first line
abbrev pub head_len : List ℕ → Option ℕ
head_len bytes = option_map (λ n. n + (length bytes - length (skip_pairs bytes))) (through_empty_line (skip_pairs bytes))

-- the bytes among which a head has to end
unfoldable pub front_of : List ℕ → List ℕ
front_of bytes = take MAX_HEAD_BYTES bytes
