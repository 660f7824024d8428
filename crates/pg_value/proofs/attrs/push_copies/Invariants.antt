use Rattle.std.proofs.Common.{◌≡◌, ◌++◌, take}
use Rattle.pg_value.proofs.attrs.push_copies.Given as goal

abbrev pub invariant-loop-key : goal.invariant-loop-key
invariant-loop-key l = l.onto.items ≡ l.fn.onto.items ++ take l.key-index l.entries
