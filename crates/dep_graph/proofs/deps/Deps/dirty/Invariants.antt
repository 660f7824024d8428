use Rattle.std.proofs.Common.{◌≡◌, take}
use Rattle.dep_graph.specs.Deps.{dirty_of}
use Rattle.dep_graph.proofs.deps.Deps.dirty.Given as goal

-- the paths that need one of the names before this one
abbrev pub invariant-loop-name : goal.invariant-loop-name
invariant-loop-name l = l.paths ≡ dirty_of (take l.name-index l.changed) l.self
