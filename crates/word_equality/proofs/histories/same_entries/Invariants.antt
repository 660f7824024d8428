use Rattle.std.proofs.Common.{◌≡◌, take}
use Rattle.word_equality.proofs.histories.same_entries.Given as goal

-- the first entries are the same
abbrev pub invariant-loop-place : goal.invariant-loop-place
invariant-loop-place l = take l.place l.one.items ≡ take l.place l.other.items
