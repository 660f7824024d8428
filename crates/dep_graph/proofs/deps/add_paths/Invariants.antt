use Rattle.std.proofs.Common.{◌≡◌, drop}
use Rattle.dep_graph.specs.Deps.{with_names}
use Rattle.dep_graph.proofs.deps.add_paths.Given as goal

-- the users that are left make of the paths so far what all make of those at first
abbrev pub invariant-loop-user : goal.invariant-loop-user
invariant-loop-user l = with_names (drop l.user-index l.users) l.paths ≡ with_names l.users l.initial.paths
