use Rattle.std.proofs.Common.{◌≡◌, ◌++◌, drop}
use Rattle.page_directives.specs.Settings.{given, giver, has_clash}
use Rattle.page_directives.proofs.giving.has_clash.Given as goal

abbrev pub invariant-loop-attribute : goal.invariant-loop-attribute
invariant-loop-attribute l =
    has_clash (given (giver l.in_tag) l.before.directives ++ l.own) (drop l.attribute-index l.own) ≡ has_clash (given (giver l.in_tag) l.before.directives ++ l.own) l.own
