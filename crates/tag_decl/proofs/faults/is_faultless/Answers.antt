use Rattle.std.proofs.Common.{ap, ◌∙◌}
use Rattle.page_directives.specs.Faults.{is_good}
use Rattle.page_directives.proofs.FaultLemmas.{is_good-in_order}
use Rattle.tag_decl.specs.Faults.{any_faults}
use Rattle.tag_decl.proofs.faults.is_faultless.Goals as goal

pub returns : goal.returns
returns c = c.is_empty.ensures ∙ (ap is_good c.any_faults.ensures ∙ is_good-in_order (any_faults c.args.decls.now c.args.before.now c.args.directive.now))
