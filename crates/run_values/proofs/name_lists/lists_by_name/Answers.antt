use Rattle.std.proofs.Common.{arith, ◌∙◌, ap, map, subst, sym}
use Rattle.page_meaning.specs.Request.{items_under}
use Rattle.run_values.specs.NameLists.{appended}
use Rattle.run_values.proofs.NameListLemmas.{first_and, name_step, sorted_entries}
use Rattle.run_values.proofs.name_lists.lists_by_name.Goals as goal
use Rattle.pg_value.proofs.Order.{AreInOrder-none}
use Rattle.pg_value.specs.Attrs.{AreInOrder}
use Rattle.pg_value.specs.Value.{datum_of, entry_of}

pub loop-rest-init : goal.loop-rest-init
loop-rest-init c = record {
  order = subst AreInOrder (sym c.empty-lists.ensures) AreInOrder-none;
  rest =
      ap (λ es. appended es (map entry_of c.as_slice-rest.result.now)) c.empty-lists.ensures ∙ ap (λ es. appended _ (map entry_of es)) c.as_slice-rest.ensures.value
      ∙ sorted_entries c.args.entries.items c.in_ok-sorted.sorted.items c.in_ok-sorted.ensures;
}

pub loop-rest-preserved : goal.loop-rest-preserved
loop-rest-preserved c =
    let same = sym (ap (λ e. e.0) c.index-rest-0.is) in
    let both = name_step c.loop-rest.lists c.insert.new.self _ c.loop-rest.rest.now _ c.split_by_name.result.0.now c.split_by_name.result.1.now c.index-rest-0.result c.index-rest-0-in-loop-rest.result
    c.in_ok-items.items.items c.as_str.result.now c.as_str-in-len1-up.result.now c.in_ok-copy.field-0 _ (datum_of c.in_ok-values.values)
    (first_and c.loop-rest.rest.now c.index-rest-0.result c.index-rest-0-in-loop-rest.result (omega (arith, c.in-len1-up.len_at_least)) c.index-rest-0.is c.index-rest-0-in-loop-rest.is)
    (c.as_str.ensures ∙ same) (c.as_str-in-len1-up.ensures ∙ same) (c.in_ok-copy.ensures ∙ same) c.split_by_name.ensures.split c.loop-rest.invariant.order (c.in_ok-items.ensures ∙ ap items_under c.get.ensures) (sym (ap (λ e. e.1) c.index-rest-0-in-loop-rest.is)) c.in_ok-values.ensures
    c.in_ok-insert.ensures.ok c.loop-rest.invariant.rest in
    record { order = both.0; rest = both.1 }
