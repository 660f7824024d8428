use Rattle.std.proofs.Common.{ap, rules, ◌∙◌}
use Rattle.run_values.proofs.NameListLemmas.{list_is}
use Rattle.run_values.proofs.name_lists.list_with.Goals as goal
use Rattle.pg_value.specs.Datum.{items_of, list}

pub returns : goal.returns
returns c =
    ap (λ ds. list (items_of ds)) c.in_ok-new.ensures
    ∙ list_is c.args.items.items c.push.new.self.items c.loop-value.items.items c.args.value.now c.in_ok-copy.field-0 c.args.more.now c.loop-value.value-index c.loop-value.invariant c.in_ok-push.ensures.items c.in_ok-copy.ensures
    (search rules)
