use Rattle.std.proofs.Common.{rules, sym, subst}
use Rattle.pg_value.specs.Datum.{entries_of, rec}
use Rattle.pg_value.specs.Measured.{IsMeasured}
use Rattle.pg_value.proofs.record.Record.remove.Goals as goal

-- nothing was taken out
pub invariant_of-self : goal.invariant_of-self
invariant_of-self c =
    (c.take_out.ensures.kept, subst (λ es. IsMeasured (rec (entries_of es)) c.self.inside.weight c.self.inside.depth) (sym c.in_err-take_out.ensures.err) c.self.invariant.1)

-- measured anew
pub invariant_of-self-2 : goal.invariant_of-self-2
invariant_of-self-2 c = (c.take_out.ensures.kept, record { weighs = search rules; reaches = search rules })
