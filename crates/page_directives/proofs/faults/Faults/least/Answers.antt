use Rattle.std.proofs.Common.{ap, sym, ◌∙◌}
use Rattle.std.specs.List.{slice_get}
use Rattle.page_directives.proofs.FaultLemmas.{least_at}
use Rattle.page_directives.proofs.faults.Faults.least.Goals as goal

pub returns : goal.returns
returns c = c.least_of.ensures ∙ (sym (least_at c.self.inside.bits) ∙ ap (λ faults. slice_get faults 0) c.self.view_is)
