-- The number of a worker of several sites.
use Rattle.std.specs.Prelude.{ℕ, List, [], ◌∷◌}

-- the number of a worker's passes, which is that of the first
abbrev pub number_of : {P : Type 0} → (P → ℕ) → List P → ℕ
number_of number [] = 0
number_of number (port ∷ ports) = number port
