-- Lists of connections, one behind the other.
use Rattle.std.specs.Prelude.{◌≡◌, ◌==◌, ℕ, List, [], ◌∷◌, drop, length, nat_le, take, Option, Some, None, if◌then◌else◌}
use Rattle.std.specs.Option.{option_and_then}
use Rattle.pg_text.specs.Numbers.{whole_number}

-- the length that a line says: 1 to 8 decimal digits
abbrev pub length_said : List ℕ → Option ℕ
length_said line = if nat_le (length line) 8 then whole_number line else None

-- one byte more before a line
abbrev pub longer_line : ℕ → Option (List ℕ × List ℕ) → Option (List ℕ × List ℕ)
longer_line b None = None
longer_line b (Some split) = Some (b ∷ split.0, split.1)

-- the first line, and what is behind its line feed
abbrev pub first_line : List ℕ → Option (List ℕ × List ℕ)
first_line [] = None
first_line (b ∷ bytes) = if b == 10 then Some ([], bytes) else longer_line b (first_line bytes)

-- so many bytes, and those behind them
abbrev pub split_after : ℕ → List ℕ → Option (List ℕ × List ℕ)
split_after count bytes = if nat_le count (length bytes) then Some (take count bytes, drop count bytes) else None

-- the first connection, and what is behind it: a line says its length
abbrev pub first_connection : List ℕ → Option (List ℕ × List ℕ)
first_connection input = option_and_then (λ split. option_and_then (λ count. split_after count split.1) (length_said split.0)) (first_line input)

-- the input begins with these connections, and this rest is behind them
abbrev pub BeginsWith : (input : List ℕ) → List (List ℕ) → (rest : List ℕ) → Type 0
BeginsWith input [] rest = rest ≡ input
BeginsWith input (bytes ∷ connections) rest = (next : List ℕ) × (first_connection input ≡ Some (bytes, next)) × BeginsWith next connections rest

-- the input is the list of these connections
abbrev pub IsListOf : (input : List ℕ) → List (List ℕ) → Type 0
IsListOf input connections = BeginsWith input connections []
