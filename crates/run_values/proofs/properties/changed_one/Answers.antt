use Rattle.std.proofs.Common.{Ok, Some, ap, sym, ◌∙◌}
use Rattle.run_values.proofs.PropertyLemmas.{changed_one_is}
use Rattle.run_values.proofs.properties.changed_one.Goals as goal
use Rattle.page_meaning.specs.Beans.{filled, property_of}
use Rattle.pg_value.specs.Attrs.{entry_at, with_entry}
use Rattle.pg_value.specs.Value.{datum_of}

pub returns : goal.returns
returns c =
    let property = sym (ap (λ name. property_of name (datum_of c.args.value.now)) c.as_str.ensures) ∙ c.in_ok-old.ensures in
    let parameter = sym (c.in-Some.ensures ∙ ap filled (c.get.ensures ∙ ap (λ name. entry_at name c.args.params.now) c.as_str-2.ensures)) in
    let same = changed_one_is c.args.value.now c.in-Rec.record c.in-Rec.is c.args.params.now c.args.property.now c.args.parameter.now (datum_of c.in_ok-old.old) (datum_of c.in-Some.new.now)
    (datum_of c.in_ok-new.new) property parameter c.in_ok-new.ensures in
    same
    ∙ ap (λ es. Ok (Some es))
    (sym (c.in_ok-insert.ensures.ok ∙ ap (λ name. with_entry c.in_ok-entries.entries name (datum_of c.in_ok-new.new)) c.in_ok-copy.ensures
    ∙ ap (λ es. with_entry es c.args.property.now (datum_of c.in_ok-new.new)) c.in_ok-entries.ensures))
