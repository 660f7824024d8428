use Rattle.std.proofs.Common.{◌≡◌, map}
use Rattle.page_meaning.specs.Request.{first_values}
use Rattle.run_parts.proofs.OwnParams.{first_of, with_own}
use Rattle.run_parts.proofs.param_records.with_first_values.Given as goal
use Rattle.pg_value.specs.Value.{entry_of}

abbrev pub invariant-loop-name : goal.invariant-loop-name
invariant-loop-name l = with_own first_of l.made (map entry_of l.name-iterator.rest.items) ≡ with_own first_of l.fn.outer (first_values l.fn.own)
