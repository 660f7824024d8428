use Rattle.std.proofs.Common.{◌≡◌, [], Ok, Result, ap, map, subst, sym, ◌∙◌}
use Rattle.jstl_functions.specs.Functions.{and_then, measured}
use Rattle.run_values.proofs.TableLemmas.{record_more, short_pairs}
use Rattle.run_values.proofs.values.record_of.Goals as goal
use Rattle.page_meaning.specs.Expressions.{record_onto}
use Rattle.page_table.specs.Operations.{pairs_in}
use Rattle.pg_text.specs.Failure.{AnswersAs}
use Rattle.pg_value.specs.Attrs.{of_entries}
use Rattle.pg_value.specs.Datum.{entries_of, rec}
use Rattle.pg_value.specs.Value.{datum_of, entry_of}
use Rattle.pg_value.specs.declared.fault.RunFault.{RunFault}
use Rattle.scopes.specs.Scopes.{Entries}

pub loop-rest-preserved : goal.loop-rest-preserved
loop-rest-preserved c =
    record_more c.loop-rest.entries.items c.push.new.self.items c.loop-rest.rest.now c.key-item.result c.value-item.result c.in_ok-copy.field-0 c.in_ok-to_text.field-0 _
    c.in-len2-up.len_at_least c.key-item.is c.value-item.is c.in_ok-copy.ensures c.in_ok-to_text.ensures.text c.in_ok-push.ensures.items c.loop-rest.invariant

pub returns : goal.returns
returns c =
    let made = of_entries (map entry_of c.loop-rest.entries.items) in
    let same : Ok made ≡ record_onto [] (pairs_in (map datum_of c.args.pairs.now)) =
    ap (record_onto made) (sym (short_pairs c.loop-rest.rest.now c.in_default.len_below)) ∙ c.loop-rest.invariant in
    subst (λ (r : Result Entries RunFault). AnswersAs datum_of (and_then r (λ es. measured (rec (entries_of es)))) c.measured.result) same
    (subst (λ (es : Entries). AnswersAs datum_of (measured (rec (entries_of es))) c.measured.result) (c.in_ok-new.ensures ∙ c.in_ok-from_entries.ensures) c.measured.ensures)
