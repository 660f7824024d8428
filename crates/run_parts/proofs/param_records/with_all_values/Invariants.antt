use Rattle.std.proofs.Common.{◌≡◌, map}
use Rattle.page_meaning.specs.Request.{all_values}
use Rattle.run_parts.specs.Records.{list_before}
use Rattle.run_parts.proofs.OwnParams.{with_own}
use Rattle.run_parts.proofs.param_records.with_all_values.Given as goal
use Rattle.pg_value.specs.Value.{entry_of}

abbrev pub invariant-loop-name : goal.invariant-loop-name
invariant-loop-name l = with_own list_before l.made (map entry_of l.name-iterator.rest.items) ≡ with_own list_before l.fn.outer (all_values l.fn.own)
