use Rattle.std.proofs.Common.{Ok, ap, sym, ◌∙◌}
use Rattle.run_values.proofs.PropertyLemmas.{property_found_is}
use Rattle.run_values.proofs.properties.property_found.Goals as goal
use Rattle.page_meaning.specs.Beans.{property_of}
use Rattle.pg_value.specs.Value.{datum_of}

pub returns : goal.returns
returns c =
    let property = sym (ap (λ name. property_of name (datum_of c.args.value.now)) c.as_str.ensures) ∙ c.in_ok-property_of.ensures in
    property_found_is c.args.value.now c.in-Rec.record c.in-Rec.is c.args.property.now c.args.scope (datum_of c.in_ok-property_of.field-0) property
    ∙ ap (λ es. Ok (record { scope = c.args.scope; entries = es; old = datum_of c.in_ok-property_of.field-0 })) (sym c.in_ok-copy.ensures)
