use Rattle.std.proofs.Common.{ap, subst, sym, ◌∙◌}
use Rattle.jstl_functions.specs.Functions.{measured}
use Rattle.run_values.proofs.PropertyLemmas.{property_replaced_is}
use Rattle.run_values.proofs.properties.property_replaced.Goals as goal
use Rattle.page_meaning.specs.Core.{with_property}
use Rattle.pg_text.specs.Failure.{AnswersAs}
use Rattle.pg_value.specs.Datum.{entries_of, rec}
use Rattle.pg_value.specs.Value.{datum_of}

pub returns-clause-answer : goal.returns-clause-answer
returns-clause-answer c =
    subst (λ r. AnswersAs datum_of r c.measured.result)
    (ap (λ es. measured (rec (entries_of es)))
    (c.in_ok-changed.ensures ∙ ap (with_property c.args.name.now (datum_of c.args.new.now)) c.in_ok-copy.ensures)
    ∙ sym (property_replaced_is c.args.record.now c.in-Rec.record c.in-Rec.is c.args.name.now (datum_of c.args.new.now)))
    c.measured.ensures
