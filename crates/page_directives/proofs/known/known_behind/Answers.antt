use Rattle.std.proofs.Common.{Option, IfSome, subst}
use Rattle.page_directives.specs.declared.known.Known.{Known}
use Rattle.page_directives.specs.ReadKnown.{IsKnown}
use Rattle.page_directives.proofs.known.known_behind.Goals as goal

pub returns-in_ok-behind-in-Some : goal.returns-in_ok-behind-in-Some
returns-in_ok-behind-in-Some c before is =
    c.in_ok-behind-in-Some.ensures before (subst (λ (known : Option Known). IfSome known (λ known. IsKnown known before)) c.in-Some.is is)
