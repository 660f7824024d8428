use Rattle.std.proofs.Common.{◌≡◌, take}
use Rattle.word_equality.proofs.lists.are_same.Given as goal

-- the first items are the same
abbrev pub invariant-loop-place : goal.invariant-loop-place
invariant-loop-place g l = take l.place l.one ≡ take l.place l.other
