use Rattle.std.proofs.Common.{◌≡◌, drop, map}
use Rattle.run_values.proofs.properties.these_by_parameters.Given as goal
use Rattle.page_meaning.specs.Beans.{all_by_parameters}
use Rattle.pg_value.specs.Value.{entry_of}

abbrev pub invariant-loop-name : goal.invariant-loop-name
invariant-loop-name l = all_by_parameters l.params (map entry_of (drop l.name-index l.properties)) l.onto ≡ all_by_parameters l.params (map entry_of l.properties) l.fn.entries
