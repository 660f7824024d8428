use Rattle.std.proofs.Common.{◌≡◌, ◌∙◌, Some, ap, map, subst, sym}
use Rattle.pg_value.specs.Datum.{entries_of, rec}
use Rattle.pg_value.specs.Value.{datum_of, entry_of}
use Rattle.run_values.proofs.statuses.Statuses.status.Goals as goal
use Rattle.run_values.specs.Rounds.{IfStatusOf, IsStatusOf, round_at}

pub with_round-requires : goal.with_round-requires
with_round-requires c = (c.args.self.now, c.in_ok-take_spare.ensures.status)

pub invariant_of-self : goal.invariant_of-self
invariant_of-self c =
    let vs = map entry_of c.self.inside.values.items in
    let same : vs ≡ c.args.self.now = c.self.view_is ∙ c.in_ok-take_spare.ensures.same in
    let was = subst (λ v. IsStatusOf v c.in_ok-take_spare.field-0) (sym same) c.in_ok-take_spare.ensures.status in
    let is : IfStatusOf vs (Some c.in_ok-status.status) = record { round = round_at c.args.mark.now; current = datum_of c.args.current; is = c.in_ok-status.ensures vs was } in
    (subst (IfStatusOf vs) (sym c.replace.ensures.after) is, subst (IfStatusOf vs) (sym c.replace.ensures.value) c.self.invariant.0)

pub returns-clause-status : goal.returns-clause-status
returns-clause-status c = ap (λ es. rec (entries_of es)) (c.in_ok-shown.ensures ∙ c.in_ok-status.ensures c.args.self.now c.in_ok-take_spare.ensures.status)
