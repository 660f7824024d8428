use Rattle.std.proofs.Common.{◌≡◌, ◌++◌, drop}
use Rattle.page_pieces.proofs.name_set.NameSet.push_all.Given as goal

abbrev pub invariant-loop-name : goal.invariant-loop-name
invariant-loop-name l = l.self ++ drop l.name-index l.names ≡ l.fn.self ++ l.names
