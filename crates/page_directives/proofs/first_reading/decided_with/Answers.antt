use Rattle.std.proofs.Common.{sym, ap, ◌∙◌}
use Rattle.std.specs.Option.{option_map}
use Rattle.page_directives.proofs.FirstLemmas.{decided_next, decided_still}
use Rattle.page_directives.proofs.KnownLemmas.{text_now}
use Rattle.page_directives.proofs.first_reading.decided_with.Goals as goal

pub returns-in-Some : goal.returns-in-Some
returns-in-Some c before is = decided_still c.args.in_tag before c.args.directive.now c.args.name.now c.in-Some.text.now (sym (ap (option_map text_now) c.in-Some.is) ∙ is)

pub returns-in-None : goal.returns-in-None
returns-in-None c before is = c.decided_here.ensures ∙ decided_next c.args.in_tag before c.args.directive.now c.args.name.now (sym (ap (option_map text_now) c.in-None.is) ∙ is)
