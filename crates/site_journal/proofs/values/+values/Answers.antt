use Rattle.std.proofs.Common.{ap, arith, length, map, refl, rules, ◌+◌, ◌*◌, ◌<◌, subst, sym, ◌∙◌}
use Rattle.pg_value.proofs.Sizes.{run_length, run_size}
use Rattle.pg_value.specs.Size.{entries_size}
use Rattle.pg_value.specs.Value.{datum_of, entry_of}
use Rattle.site_journal.proofs.Parts.{entries_parts, entry_parts, item_parts, items_parts, list_parts, rec_parts, run_parts, runs_parts}
use Rattle.site_journal.proofs.Written.{entries_all, entry_next, item_next, items_all, list_text, rec_text, run_next, runs_all}
use Rattle.sink_buffer.proofs.Writing.{writes_both, writes_none, writes_same}
use Rattle.site_journal.specs.Journal.{of_value}
use Rattle.site_journal.specs.Reading.{IsDatum}
use Rattle.site_journal.proofs.values.+values.Goals as goal

pub put_value-returns-in-Bool-clause-writes : goal.put_value-returns-in-Bool-clause-writes
put_value-returns-in-Bool-clause-writes g t c = writes_same (ap of_value (sym c.in-Bool.is)) (writes_both c.put_byte-in-Bool.ensures c.put_truth.ensures)

pub put_value-returns-in-Int-clause-writes : goal.put_value-returns-in-Int-clause-writes
put_value-returns-in-Int-clause-writes g t c = writes_same (ap of_value (sym c.in-Int.is)) (writes_both c.put_byte-in-Int.ensures c.put_int.ensures.writes)

pub put_value-returns-in-Int-clause-can_be : goal.put_value-returns-in-Int-clause-can_be
put_value-returns-in-Int-clause-can_be g t c = subst (λ v. IsDatum (datum_of v)) (sym c.in-Int.is) c.put_int.ensures.can_be

pub put_value-returns-in-Text-clause-writes : goal.put_value-returns-in-Text-clause-writes
put_value-returns-in-Text-clause-writes g t c = writes_same (ap of_value (sym c.in-Text.is)) (writes_both c.put_byte-in-Text.ensures (rw c.as_str.ensures at c.put_text.ensures.writes))

pub put_value-returns-in-Text-clause-can_be : goal.put_value-returns-in-Text-clause-can_be
put_value-returns-in-Text-clause-can_be g t c = subst (λ v. IsDatum (datum_of v)) (sym c.in-Text.is) (rw c.as_str.ensures at c.put_text.ensures.can_be)

pub put_value-returns-in-List-clause-writes : goal.put_value-returns-in-List-clause-writes
put_value-returns-in-List-clause-writes g t c =
    writes_same (list_text _ _ _ c.len.ensures c.as_slice.ensures ∙ ap of_value (sym c.in-List.is)) (writes_both (writes_both c.put_byte-in-List.ensures c.put_number.ensures.writes) c.put_items.ensures.writes)

pub put_value-returns-in-List-clause-can_be : goal.put_value-returns-in-List-clause-can_be
put_value-returns-in-List-clause-can_be g t c = subst (λ v. IsDatum (datum_of v)) (sym c.in-List.is) (list_parts _ _ _ c.len.ensures c.as_slice.ensures c.put_number.ensures.can_be c.put_items.ensures.can_be)

pub put_value-returns-in-Rec-clause-writes : goal.put_value-returns-in-Rec-clause-writes
put_value-returns-in-Rec-clause-writes g t c =
    writes_same (rec_text _ _ _ c.len-in-Rec.ensures.len refl ∙ ap of_value (sym c.in-Rec.is)) (writes_both (writes_both c.put_byte-in-Rec.ensures c.put_number-in-Rec.ensures.writes) c.put_record.ensures.writes)

pub put_value-returns-in-Rec-clause-can_be : goal.put_value-returns-in-Rec-clause-can_be
put_value-returns-in-Rec-clause-can_be g t c =
    subst (λ v. IsDatum (datum_of v)) (sym c.in-Rec.is) (rec_parts _ _ _ c.len-in-Rec.ensures.len refl c.put_number-in-Rec.ensures.can_be c.keys_rise.ensures c.put_record.ensures.can_be)

pub put_record-loop-place-init : goal.put_record-loop-place-init
put_record-loop-place-init g t c = record { written = writes_none _ _ _; can_be = tt }

pub put_record-put_keys-requires : goal.put_record-put_keys-requires
put_record-put_keys-requires g t c =
    let next = c.entries_from-next.result.now in
    let size = run_size (map entry_of next) c.args.entries.now (length next) c.loop-place.place c.entries_from-next.ensures.same in
    let less : 3 * entries_size (map entry_of next) + 1 < t = omega (arith, c.decreases, size) in
    search (rules, less)

pub put_record-overflow_add-place : goal.put_record-overflow_add-place
put_record-overflow_add-place g t c = omega (arith, run_length c.entries_from-next.result.now c.args.entries.now c.loop-place.place c.entries_from-next.ensures.same, c.len.ensures.len, c.len.ensures.few)

pub put_record-loop-place-preserved : goal.put_record-loop-place-preserved
put_record-loop-place-preserved g t c = record {
  written = run_next c.args.entries.now _ c.loop-place.place _ c.entries_from-next.ensures.same c.loop-place.invariant.written c.put_keys.ensures.writes;
  can_be = run_parts c.args.entries.now _ c.loop-place.place _ c.entries_from-next.ensures.same c.loop-place.invariant.can_be c.put_keys.ensures.can_be;
}

pub put_record-returns-clause-writes : goal.put_record-returns-clause-writes
put_record-returns-clause-writes g t c = runs_all c.args.entries.now c.loop-place.place (omega (arith, c.len.ensures.len)) c.loop-place.invariant.written

pub put_record-returns-clause-can_be : goal.put_record-returns-clause-can_be
put_record-returns-clause-can_be g t c = runs_parts c.args.entries.now c.loop-place.place (omega (arith, c.len.ensures.len)) c.loop-place.invariant.can_be

pub put_items-loop-item-init : goal.put_items-loop-item-init
put_items-loop-item-init g t c = record { written = writes_none _ _ _; can_be = tt }

pub put_items-loop-item-preserved : goal.put_items-loop-item-preserved
put_items-loop-item-preserved g t c = record {
  written = item_next c.args.items.now c.loop-item.item-index c.item-item.result (omega arith) c.item-item.is c.loop-item.invariant.written c.put_value.ensures.writes;
  can_be = item_parts c.args.items.now c.loop-item.item-index c.item-item.result (omega arith) c.item-item.is c.loop-item.invariant.can_be c.put_value.ensures.can_be;
}

pub put_items-returns-clause-writes : goal.put_items-returns-clause-writes
put_items-returns-clause-writes g t c = items_all c.args.items.now c.loop-item.item-index (omega arith) c.loop-item.invariant.written

pub put_items-returns-clause-can_be : goal.put_items-returns-clause-can_be
put_items-returns-clause-can_be g t c = items_parts c.args.items.now c.loop-item.item-index (omega arith) c.loop-item.invariant.can_be

pub put_keys-loop-entry-init : goal.put_keys-loop-entry-init
put_keys-loop-entry-init g t c = record { written = writes_none _ _ _; can_be = tt }

pub put_keys-loop-entry-preserved : goal.put_keys-loop-entry-preserved
put_keys-loop-entry-preserved g t c = record {
  written = entry_next c.args.entries.now c.loop-entry.entry-index c.entry-item.result (omega arith) c.entry-item.is c.loop-entry.invariant.written (rw c.as_str.ensures at c.put_text.ensures.writes) c.put_value.ensures.writes;
  can_be = entry_parts c.args.entries.now c.loop-entry.entry-index c.entry-item.result (omega arith) c.entry-item.is c.loop-entry.invariant.can_be (rw c.as_str.ensures at c.put_text.ensures.can_be) c.put_value.ensures.can_be;
}

pub put_keys-returns-clause-writes : goal.put_keys-returns-clause-writes
put_keys-returns-clause-writes g t c = entries_all c.args.entries.now c.loop-entry.entry-index (omega arith) c.loop-entry.invariant.written

pub put_keys-returns-clause-can_be : goal.put_keys-returns-clause-can_be
put_keys-returns-clause-can_be g t c = entries_parts c.args.entries.now c.loop-entry.entry-index (omega arith) c.loop-entry.invariant.can_be
