use Rattle.std.proofs.Common.{List, ◌++◌, sym, subst, ◌∙◌}
use Rattle.page_pieces.specs.declared.attribute.Attribute.{Attribute}
use Rattle.page_directives.specs.ReadKnown.{HasFirst}
use Rattle.page_directives.specs.Settings.{given}
use Rattle.page_directives.proofs.KnownLemmas.{given_more, given_still}
use Rattle.page_directives.proofs.known.add_given.Goals as goal

pub returns-in_ok-add_first : goal.returns-in_ok-add_first
returns-in_ok-add_first c before has =
    given_more c.args.giver.now c.add_first.new.known before c.args.directive.now (sym c.is_named.ensures ∙ c.if-is_named.true)
    (subst (λ (attributes : List Attribute). HasFirst c.add_first.new.known (given c.args.giver.now before ++ attributes)) (c.as_slice.ensures ∙ c.attributes.ensures)
    (c.in_ok-add_first.ensures (given c.args.giver.now before) has))

pub returns-else-is_named : goal.returns-else-is_named
returns-else-is_named c before has = given_still c.args.giver.now c.args.known.now before c.args.directive.now (sym c.is_named.ensures ∙ c.if-is_named.false) has
