use Rattle.std.proofs.Common.{◌≡◌, ◌≤◌, ◌+◌, drop}
use Rattle.pages_load.specs.Load.{good_mark, places}
use Rattle.pages_load.proofs.counting.good_answers.Given as goal

-- the places so far, and those behind
abbrev pub invariant-loop-at : goal.invariant-loop-at
invariant-loop-at l = record { counted : places good_mark l.text ≡ l.count + places good_mark (drop l.at l.text); few : l.count ≤ l.at }
