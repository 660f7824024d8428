use Rattle.std.proofs.Common.{◌≡◌, drop, map}
use Rattle.dep_graph.specs.Deps.{with_names}
use Rattle.program_store.specs.Store.{names_in, need_name}
use Rattle.program_store.proofs.needs.names_of.Given as goal

-- the needs that are left make of the names so far what all make of none
abbrev pub invariant-loop-need : goal.invariant-loop-need
invariant-loop-need l = with_names (map need_name (drop l.need-index l.needs)) l.names ≡ names_in l.needs
