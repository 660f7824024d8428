use Rattle.std.proofs.Common.{Bor, option_map, rules}
use Rattle.run_parts.proofs.OwnParams.{items_added}
use Rattle.run_parts.proofs.param_records.add_items.Goals as goal
use Rattle.pg_value.specs.Value.{datum_of}
use Rattle.pg_value.specs.declared.value.Value.{Value}

pub returns-after-loop-item : goal.returns-after-loop-item
returns-after-loop-item c =
    items_added c.loop-item.items.items c.args.items.now.items c.as_slice-item-items.result.now c.loop-item.item-index c.in-Some-List.list (option_map (λ (value : Bor Value). datum_of value.now) c.args.list)
    c.loop-item.invariant (search rules) c.as_slice-item-items.ensures (search rules)
