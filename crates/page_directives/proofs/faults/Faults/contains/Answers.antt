use Rattle.std.proofs.Common.{◌∙◌, ap, sym}
use Rattle.page_directives.specs.Faults.{has_fault}
use Rattle.page_directives.proofs.FaultLemmas.{has-at_bits}
use Rattle.page_directives.proofs.faults.Faults.contains.Goals as goal

pub returns : goal.returns
returns c = c.has_bit.ensures ∙ (sym (has-at_bits c.self.inside.bits c.args.fault) ∙ ap (λ faults. has_fault faults c.args.fault) c.self.view_is)
