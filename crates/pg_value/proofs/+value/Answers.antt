use Rattle.std.proofs.Common.{rules, arith, ◌≡◌, ◌≤◌, ◌<◌, ◌+◌, ◌*◌, length, map, ap}
use Rattle.pg_value.proofs.Falls.{blocks_below, entries_below, item_less, items_below, kept_below, list_size, rec_size, rest_below, rest_of_record_below, value_less}
use Rattle.pg_value.specs.declared.block.Block.TheDeep.{size-Value}
use Rattle.pg_value.specs.ReadEntries.{joined}
use Rattle.pg_value.specs.Size.{data_size, entries_size}
use Rattle.pg_value.specs.Value.{entry_of}
use Rattle.pg_value.proofs.+value.Goals as goal

pub value::Value::drop-drop-items-inside-requires : goal.value::Value::drop-drop-items-inside-requires
value::Value::drop-drop-items-inside-requires t c κs =
    let kept : size-Value c.loop-self.self ≤ size-Value c.args.self = c.loop-self.invariant in
    let below : 6 * data_size c.in-List.items + 4 ≤ t = omega (arith, c.decreases, kept, list_size c.loop-self.self c.in-List.items c.in-List.is) in
    (((items_below c.items.inside.items.value.items c.in-List.items t c.items.view_is below, tt), tt), search rules)

pub value::Value::drop-drop-items-requires : goal.value::Value::drop-drop-items-requires
value::Value::drop-drop-items-requires t c κs =
    let kept : size-Value c.loop-self.self ≤ size-Value c.args.self = c.loop-self.invariant in
    let below : 6 * data_size c.in-List.items + 4 ≤ t = omega (arith, c.decreases, kept, list_size c.loop-self.self c.in-List.items c.in-List.is) in
    (((items_below c.in-Some.items.items c.in-List.items t c.in-Some.ensures below, tt), tt), search rules)

pub value::Value::drop-drop-items-requires-in-List : goal.value::Value::drop-drop-items-requires-in-List
value::Value::drop-drop-items-requires-in-List t c κs =
    let kept : size-Value c.loop-self.self ≤ size-Value c.args.self = c.loop-self.invariant in
    let below : 6 * data_size c.in-List.items + 4 ≤ t = omega (arith, c.decreases, kept, list_size c.loop-self.self c.in-List.items c.in-List.is) in
    let within : c.in-Some-heaviest_item.place < length c.in-Some.items.items = omega (arith, c.in-Some-heaviest_item.ensures, ap length c.deref.ensures.value) in
    (((rest_below c.in-Some.items.items c.swap_remove-self.new.self.items c.in-List.items c.in-Some-heaviest_item.place t _ within c.swap_remove-self.ensures.items c.in-Some.ensures below, tt), tt), search rules)

pub value::Value::drop-loop-self-smaller-in-List : goal.value::Value::drop-loop-self-smaller-in-List
value::Value::drop-loop-self-smaller-in-List t c =
    let within : c.in-Some-heaviest_item.place < length c.in-Some.items.items = omega (arith, c.in-Some-heaviest_item.ensures, ap length c.deref.ensures.value) in
    item_less c.in-Some.items.items c.in-List.items c.in-Some-heaviest_item.place (size-Value c.loop-self.self) c.swap_remove-self.result c.swap_remove-self.ensures.value within c.in-Some.ensures
    (list_size c.loop-self.self c.in-List.items c.in-List.is)

pub value::Value::drop-loop-self-preserved-in-List : goal.value::Value::drop-loop-self-preserved-in-List
value::Value::drop-loop-self-preserved-in-List t c =
    let kept : size-Value c.loop-self.self ≤ size-Value c.args.self = c.loop-self.invariant in
    let within : c.in-Some-heaviest_item.place < length c.in-Some.items.items = omega (arith, c.in-Some-heaviest_item.ensures, ap length c.deref.ensures.value) in
    let less =
    item_less c.in-Some.items.items c.in-List.items c.in-Some-heaviest_item.place (size-Value c.loop-self.self) c.swap_remove-self.result c.swap_remove-self.ensures.value within c.in-Some.ensures
    (list_size c.loop-self.self c.in-List.items c.in-List.is) in
    omega (arith, kept, less)

pub value::Value::drop-drop-entries-inside-requires : goal.value::Value::drop-drop-entries-inside-requires
value::Value::drop-drop-entries-inside-requires t c κs =
    let kept : size-Value c.loop-self.self ≤ size-Value c.args.self = c.loop-self.invariant in
    let below : 6 * entries_size c.in-Rec.entries + 7 ≤ t = omega (arith, c.decreases, kept, rec_size c.loop-self.self c.in-Rec.entries c.in-Rec.is) in
    (((kept_below c.entries.inside.entries.value c.in-Rec.entries t c.entries.view_is below, tt), tt), search rules)

pub value::Value::drop-drop-blocks-requires : goal.value::Value::drop-drop-blocks-requires
value::Value::drop-drop-blocks-requires t c κs =
    let kept : size-Value c.loop-self.self ≤ size-Value c.args.self = c.loop-self.invariant in
    let below : 6 * entries_size c.in-Rec.entries + 7 ≤ t = omega (arith, c.decreases, kept, rec_size c.loop-self.self c.in-Rec.entries c.in-Rec.is) in
    let seen : joined c.in-Some-Many._blocks.items ≡ c.in-Rec.entries = rw c.in-Some-Many.field-0-is at c.in-Some-Many.ensures in
    (((blocks_below c.in-Some-Many._blocks.items c.in-Rec.entries t seen below, tt), tt), search rules)

pub value::Value::drop-drop-list-requires : goal.value::Value::drop-drop-list-requires
value::Value::drop-drop-list-requires t c κs =
    let kept : size-Value c.loop-self.self ≤ size-Value c.args.self = c.loop-self.invariant in
    let below : 6 * entries_size c.in-Rec.entries + 7 ≤ t = omega (arith, c.decreases, kept, rec_size c.loop-self.self c.in-Rec.entries c.in-Rec.is) in
    let seen : map entry_of c.in-Some-Few.list.items ≡ c.in-Rec.entries = rw c.in-Some-Few.field-0-is at c.in-Some-Few.ensures in
    (((entries_below c.in-Some-Few.list.items c.in-Rec.entries t seen below, tt), tt), search rules)

pub value::Value::drop-drop-list-requires-in-Rec : goal.value::Value::drop-drop-list-requires-in-Rec
value::Value::drop-drop-list-requires-in-Rec t c κs =
    let kept : size-Value c.loop-self.self ≤ size-Value c.args.self = c.loop-self.invariant in
    let below : 6 * entries_size c.in-Rec.entries + 7 ≤ t = omega (arith, c.decreases, kept, rec_size c.loop-self.self c.in-Rec.entries c.in-Rec.is) in
    let seen : map entry_of c.in-Some-Few.list.items ≡ c.in-Rec.entries = rw c.in-Some-Few.field-0-is at c.in-Some-Few.ensures in
    let within : c.in-Some-heaviest_entry.place < length c.in-Some-Few.list.items = omega (arith, c.in-Some-heaviest_entry.ensures, ap length c.deref-in-Rec.ensures.value) in
    (((rest_of_record_below c.in-Some-Few.list.items c.swap_remove.new.self.items c.in-Rec.entries c.in-Some-heaviest_entry.place t _ within c.swap_remove.ensures.items seen below, tt), tt), search rules)

pub value::Value::drop-loop-self-smaller : goal.value::Value::drop-loop-self-smaller
value::Value::drop-loop-self-smaller t c =
    let seen : map entry_of c.in-Some-Few.list.items ≡ c.in-Rec.entries = rw c.in-Some-Few.field-0-is at c.in-Some-Few.ensures in
    let within : c.in-Some-heaviest_entry.place < length c.in-Some-Few.list.items = omega (arith, c.in-Some-heaviest_entry.ensures, ap length c.deref-in-Rec.ensures.value) in
    value_less c.in-Some-Few.list.items c.in-Rec.entries c.in-Some-heaviest_entry.place (size-Value c.loop-self.self) c.swap_remove.result c.swap_remove.ensures.value within seen
    (rec_size c.loop-self.self c.in-Rec.entries c.in-Rec.is)

pub value::Value::drop-loop-self-preserved : goal.value::Value::drop-loop-self-preserved
value::Value::drop-loop-self-preserved t c =
    let kept : size-Value c.loop-self.self ≤ size-Value c.args.self = c.loop-self.invariant in
    let seen : map entry_of c.in-Some-Few.list.items ≡ c.in-Rec.entries = rw c.in-Some-Few.field-0-is at c.in-Some-Few.ensures in
    let within : c.in-Some-heaviest_entry.place < length c.in-Some-Few.list.items = omega (arith, c.in-Some-heaviest_entry.ensures, ap length c.deref-in-Rec.ensures.value) in
    let less =
    value_less c.in-Some-Few.list.items c.in-Rec.entries c.in-Some-heaviest_entry.place (size-Value c.loop-self.self) c.swap_remove.result c.swap_remove.ensures.value within seen
    (rec_size c.loop-self.self c.in-Rec.entries c.in-Rec.is) in
    omega (arith, kept, less)
