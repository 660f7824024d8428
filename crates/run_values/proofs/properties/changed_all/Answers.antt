use Rattle.std.proofs.Common.{Err, Ok, ap, subst, sym, ◌∙◌}
use Rattle.run_values.proofs.PropertyLemmas.{changed_all_is, handed_on}
use Rattle.run_values.proofs.properties.changed_all.Goals as goal
use Rattle.run_values.specs.Properties.{changed_all}
use Rattle.pg_text.specs.Failure.{Answers}
use Rattle.pg_value.specs.Value.{datum_of}

pub returns-in_err-changed : goal.returns-in_err-changed
returns-in_err-changed c =
    handed_on (changed_all c.args.params.now (datum_of c.args.value.now)) c.in_err-changed.field-0.0 c.from_residual.result c.from_residual.ensures.1
    (subst (λ x. Answers x (Err c.in_err-changed.field-0.0)) (sym (changed_all_is c.args.value.now c.in-Rec.record c.in-Rec.is c.args.params.now)) c.in_err-changed.ensures)

pub returns : goal.returns
returns c = changed_all_is c.args.value.now c.in-Rec.record c.in-Rec.is c.args.params.now ∙ c.in_ok-changed.ensures ∙ ap Ok (sym c.in_ok-new.ensures)
