use Rattle.std.proofs.Common.{◌++◌, codes, sym, ap, ◌∙◌}
use Rattle.page_pieces.specs.Settings.{value_of}
use Rattle.page_directives.specs.Settings.{given, giver}
use Rattle.page_directives.proofs.known.Known.value.Goals as goal

pub returns-then-in_tag : goal.returns-then-in_tag
returns-then-in_tag c before known =
    c.first_value.ensures (given (codes "tag") before) known.tag ∙ ap (λ b. value_of c.args.name.now (given (giver b) before ++ c.args.own.now)) (sym c.if-in_tag.true)

pub returns-else-in_tag : goal.returns-else-in_tag
returns-else-in_tag c before known =
    c.first_value-else-in_tag.ensures (given (codes "page") before) known.page ∙ ap (λ b. value_of c.args.name.now (given (giver b) before ++ c.args.own.now)) (sym c.if-in_tag.false)
