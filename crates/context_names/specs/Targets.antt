-- The context to which a target belongs.
use Rattle.std.specs.Prelude.{ℕ, Bool, List, ◌+◌, ◌==◌, drop, take, Option, Some, None}
use Rattle.std.specs.List.{position}
use Rattle.std.specs.Option.{option_map}
use Rattle.std.specs.Str.{bytes_eq}

abbrev pub is_slash : ℕ → Bool
is_slash b = b == 47

-- what stands between the first slash of a target and the second, and where the second stands
abbrev pub named : List ℕ → Option (List ℕ × ℕ)
named target = behind (position is_slash target)
  where
    behind : Option ℕ → Option (List ℕ × ℕ)
    behind None = None
    behind (Some first) =
        option_map (λ len. (take len (drop (first + 1) target), first + 1 + len)) (position is_slash (drop (first + 1) target))

-- the place of the context with the name that was found, and where the target goes on inside it
abbrev pub among : List (List ℕ) → Option (List ℕ × ℕ) → Option (ℕ × ℕ)
among names None = None
among names (Some found) = option_map (λ place. (place, found.1)) (position (λ name. bytes_eq name found.0) names)

-- the same of a target
abbrev pub context_of : List (List ℕ) → List ℕ → Option (ℕ × ℕ)
context_of names target = among names (named target)
