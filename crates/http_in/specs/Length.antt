-- The size of a body, by the values of Content-Length.
use Rattle.std.specs.Prelude.{ℕ, Bool, false, List, [], ◌∷◌, Option, Some, None, ◌==◌, unwrap_or, if◌then◌else◌}
use Rattle.std.specs.List.{list_all}
use Rattle.std.specs.Option.{option_map}
use Rattle.pg_text.specs.Numbers.{whole_number}

-- whether a value writes this number
abbrev pub writes : ℕ → List ℕ → Bool
writes number value = unwrap_or (option_map (λ other. other == number) (whole_number value)) false

-- the number, where each of the values writes it
abbrev pub agreed : Option ℕ → List (List ℕ) → Option ℕ
agreed None values = None
agreed (Some number) values = if list_all (writes number) values then Some number else None

-- the one number that the values write, and 0 where there is no value
abbrev pub size_of : List (List ℕ) → Option ℕ
size_of [] = Some 0
size_of (value ∷ values) = agreed (whole_number value) values
