use Rattle.std.proofs.Common.{◌≡◌, ◌++◌, drop, map, take}
use Rattle.dep_graph.specs.Deps.{let_go}
use Rattle.dep_graph.proofs.index.let_all_go.Given as goal

-- those before this one have let the paths go
abbrev pub invariant-loop-named : goal.invariant-loop-named
invariant-loop-named l = l.named-items ≡ map (let_go l.paths) (take l.named-index l.fn.index.items) ++ drop l.named-index l.fn.index.items
