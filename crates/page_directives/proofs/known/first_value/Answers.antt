use Rattle.std.proofs.Common.{sym, ap, ◌∙◌}
use Rattle.std.specs.Option.{option_copied}
use Rattle.page_pieces.specs.Settings.{plain_text}
use Rattle.page_directives.proofs.KnownLemmas.{value_known}
use Rattle.page_directives.proofs.known.first_value.Goals as goal

pub returns-in-Some : goal.returns-in-Some
returns-in-Some c all has =
    c.plain_text.ensures ∙ (ap plain_text c.as_slice.ensures ∙ value_known c.args.known.now c.args.name all c.args.own.now _ (sym (ap option_copied c.in-Some.is) ∙ c.get.ensures.value) has)

pub returns-in-None : goal.returns-in-None
returns-in-None c all has = c.plain.ensures ∙ value_known c.args.known.now c.args.name all c.args.own.now _ (sym (ap option_copied c.in-None.is) ∙ c.get.ensures.value) has
