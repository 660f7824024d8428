-- How far a run of checked code still is from its end: a number that falls with each turn. It is never computed while pages run.
use Rattle.std.specs.Prelude.{ℕ, zero, suc, ◌+◌, ◌-◌, ◌*◌, List, [], ◌∷◌, length}
use Rattle.page_code.specs.declared.code.Cell.{Cell}
use Rattle.page_meaning.specs.State.{State}
use Rattle.page_meaning.specs.Work.{visit_limit}
use Rattle.page_table.specs.Open.{OpenCatch, Open}

-- a power of 3
abbrev pub three : ℕ → ℕ
three zero = 1
three (suc k) = 3 * three k

-- how far the places at which open catches go on are from the end of so many cells
abbrev pub weights : ℕ → List OpenCatch → ℕ
weights n [] = 0
weights n (c ∷ outer) = three (n - c.to) + weights n outer

-- how far a place is from the end of so many cells, with the places to which a fault may still go
abbrev pub weight : ℕ → ℕ → List OpenCatch → ℕ
weight n pc catches = three (n - pc) + weights n catches

-- how many catches the shapes of a code list together
abbrev pub opened : List Cell → ℕ
opened [] = 0
opened (cell ∷ rest) = length cell.shape.catches + opened rest

-- more than any weight in this code
abbrev pub span : List Cell → ℕ
span code = three (length code) * (1 + opened code) + 1

-- how far a run is from its end: only a counted visit leads back
abbrev pub to_go : List Cell → ℕ → State → Open → ℕ
to_go code pc s o = (visit_limit - s.visits) * span code + weight (length code) pc o.catches
