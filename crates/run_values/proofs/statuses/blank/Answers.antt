use Rattle.std.proofs.Common.{map, ◌∙◌}
use Rattle.pg_value.specs.Datum.{null}
use Rattle.pg_value.specs.Value.{entry_of}
use Rattle.run_values.proofs.StatusLemmas.{if_made, status_in_order}
use Rattle.run_values.proofs.statuses.blank.Goals as goal
use Rattle.run_values.specs.Rounds.{IsStatusOf, no_round}

pub new-requires : goal.new-requires
new-requires c = status_in_order _ (map entry_of c.args.table.now) no_round null c.in_ok-blank_entries.ensures

pub returns : goal.returns
returns c =
    if_made c.new-2.result c.new.result (IsStatusOf (map entry_of c.args.table.now)) c.new-2.ensures
    (record { round = no_round; current = null; is = c.new.ensures ∙ c.in_ok-blank_entries.ensures })
