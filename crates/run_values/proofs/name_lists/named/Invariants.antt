use Rattle.std.proofs.Common.{◌≡◌, ◌+◌, drop, map}
use Rattle.run_values.specs.NameLists.{first_named}
use Rattle.run_values.proofs.name_lists.named.Given as goal
use Rattle.pg_value.specs.Value.{entry_of}

abbrev pub invariant-loop-index : goal.invariant-loop-index
invariant-loop-index l = l.index + first_named l.name (map entry_of (drop l.index l.entries)) ≡ first_named l.name (map entry_of l.entries)
