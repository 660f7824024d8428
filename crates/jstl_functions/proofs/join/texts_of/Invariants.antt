use Rattle.std.proofs.Common.{◌≡◌, ◌++◌, drop, map, Ok}
use Rattle.pg_value.specs.Value.{datum_of}
use Rattle.jstl_functions.specs.Functions.{and_then, texts_of}
use Rattle.jstl_functions.proofs.join.texts_of.Given as goal

-- the texts so far and those of the rest are the texts
abbrev pub invariant-loop-item : goal.invariant-loop-item
invariant-loop-item l = texts_of (map datum_of l.items) ≡ and_then (texts_of (map datum_of (drop l.item-index l.items))) (λ ts. Ok (l.texts.items ++ ts))
