use Rattle.std.proofs.Common.{IfOk, ap, map, subst, sym, ◌∙◌}
use Rattle.page_meaning.specs.Attributes.{Values}
use Rattle.pg_value.specs.Value.{entry_of}
use Rattle.run_values.proofs.StatusLemmas.{there}
use Rattle.run_values.proofs.statuses.Statuses.take_spare.Goals as goal
use Rattle.run_values.specs.Rounds.{IsStatusOf}

pub returns-in-Some-clause-status : goal.returns-in-Some-clause-status
returns-in-Some-clause-status c =
    subst (λ (vs : Values). IsStatusOf vs c.in-Some.spare) c.self.view_is
    (there (map entry_of c.self.inside.values.items) c.self.inside.spare c.in-Some.spare (sym c.take.ensures.value ∙ c.in-Some.is) c.self.invariant.1)

pub returns-clause-status : goal.returns-clause-status
returns-clause-status c =
    subst (λ (vs : Values). IfOk c.blank.result (λ m. IsStatusOf vs m)) (ap (map entry_of) c.deref.ensures.value ∙ c.self.view_is) c.blank.ensures
