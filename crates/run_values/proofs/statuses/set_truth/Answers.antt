use Rattle.std.proofs.Common.{◌∙◌, sym}
use Rattle.pg_value.specs.Datum.{truth}
use Rattle.pg_value.specs.EqualityLaws.{Decides-is_same}
use Rattle.run_values.proofs.StatusLemmas.{stands}
use Rattle.run_values.proofs.statuses.set_truth.Goals as goal

pub returns-clause-ok : goal.returns-clause-ok
returns-clause-ok c =
    let is = (Decides-is_same _ (truth c.args.holds)).0 (sym c.is_truth.ensures ∙ c.if-is_truth.true) in
    stands c.args.status.now c.args.at _ (truth c.args.holds) c.in-Some.ensures is
