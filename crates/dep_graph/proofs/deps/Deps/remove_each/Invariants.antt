use Rattle.std.proofs.Common.{◌≡◌, take}
use Rattle.dep_graph.specs.Deps.{without_paths}
use Rattle.dep_graph.proofs.deps.Deps.remove_each.Given as goal

-- the paths before this one are taken out
abbrev pub invariant-loop-path : goal.invariant-loop-path
invariant-loop-path l = l.self ≡ without_paths (take l.path-index l.paths) l.fn.self
