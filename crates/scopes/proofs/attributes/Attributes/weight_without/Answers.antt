use Rattle.std.proofs.Common.{◌≡◌, ◌-◌, ◌^◌, min, Some, None, rules, sym, ap, ◌∙◌}
use Rattle.pg_value.specs.Attrs.{entry_at, without_entry}
use Rattle.pg_value.specs.Datum.{rec, entries_of}
use Rattle.pg_value.specs.Value.{datum_of}
use Rattle.pg_value.specs.Weight.{weight_of}
use Rattle.scopes.proofs.Weights.{rest_of, without_entry-missing}
use Rattle.scopes.proofs.attributes.Attributes.weight_without.Goals as goal

pub overflow_sub-result : goal.overflow_sub-result
overflow_sub-result c =
    let stands : entry_at c.args.name.now c.self.inside.attributes ≡ Some (datum_of c.in-Some.field-0.now) = search rules in
    (rest_of c.self.inside.attributes c.args.name.now (datum_of c.in-Some.field-0.now) _ _ c.as_slice-entries.ensures.order stands c.self.invariant c.if-self.false c.entry_weight.ensures).0

pub returns-in-None-clause-weight : goal.returns-in-None-clause-weight
returns-in-None-clause-weight c =
    let gone : entry_at c.args.name.now c.self.inside.attributes ≡ None = search rules in
    c.self.invariant
    ∙ ap (λ es. min (weight_of (rec (entries_of es))) (2 ^ 64 - 1))
    (sym (without_entry-missing c.self.inside.attributes c.args.name.now gone) ∙ ap (λ es. without_entry es c.args.name.now) c.self.view_is)

pub returns-in-Some-2-clause-weight : goal.returns-in-Some-2-clause-weight
returns-in-Some-2-clause-weight c =
    let stands : entry_at c.args.name.now c.self.inside.attributes ≡ Some (datum_of c.in-Some.field-0.now) = search rules in
    (rest_of c.self.inside.attributes c.args.name.now (datum_of c.in-Some.field-0.now) _ _ c.as_slice-entries.ensures.order stands c.self.invariant c.if-self.false c.entry_weight.ensures).1
    ∙ ap (λ es. min (weight_of (rec (entries_of (without_entry es c.args.name.now)))) (2 ^ 64 - 1)) c.self.view_is
