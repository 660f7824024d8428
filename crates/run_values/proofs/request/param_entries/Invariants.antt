use Rattle.std.proofs.Common.{◌≡◌, map, take}
use Rattle.run_values.proofs.request.param_entries.Given as goal
use Rattle.page_meaning.specs.Request.{param_entry}
use Rattle.pg_value.specs.Value.{entry_of}

abbrev pub invariant-loop-param : goal.invariant-loop-param
invariant-loop-param l = map entry_of l.entries.items ≡ map param_entry (take l.param-index l.params)
