use Rattle.std.proofs.Common.{◌∙◌, ap, rules, sym, subst}
use Rattle.pg_value.specs.Attrs.{with_value_at}
use Rattle.pg_value.specs.Datum.{entries_of, rec}
use Rattle.pg_value.specs.Measured.{IsMeasured}
use Rattle.pg_value.specs.ReadEntries.{in_entries}
use Rattle.pg_value.specs.Value.{datum_of}
use Rattle.pg_value.proofs.record.Record.set_at.Goals as goal

-- nothing was put
pub invariant_of-self : goal.invariant_of-self
invariant_of-self c =
    (c.put_at.ensures.kept, subst (λ es. IsMeasured (rec (entries_of es)) c.self.inside.weight c.self.inside.depth) (sym c.in_err-put_at.ensures.err) c.self.invariant.1)

-- measured anew
pub invariant_of-self-then-not-keeps_measures : goal.invariant_of-self-then-not-keeps_measures
invariant_of-self-then-not-keeps_measures c = (c.put_at.ensures.kept, record { weighs = search rules; reaches = search rules })

-- its measures stay
pub invariant_of-self-else-not-keeps_measures : goal.invariant_of-self-else-not-keeps_measures
invariant_of-self-else-not-keeps_measures c =
    let lent = subst (λ es. IsMeasured (rec (entries_of (in_entries es))) c.self.inside.weight c.self.inside.depth) (sym c.deref.ensures) c.self.invariant.1 in
    let after = c.keeps_measures-keeps_measures.ensures c.if-not-keeps_measures.false _ _ lent in
    let same = ap (λ es. with_value_at (in_entries es) c.args.at (datum_of c.args.value)) (sym c.deref.ensures) in
    (c.put_at.ensures.kept, subst (λ es. IsMeasured (rec (entries_of es)) c.self.inside.weight c.self.inside.depth) (sym (c.in_ok-put_at.ensures.ok ∙ same)) after)
