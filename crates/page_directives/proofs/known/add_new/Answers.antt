use Rattle.std.proofs.Common.{sym, ◌∙◌}
use Rattle.page_directives.proofs.KnownLemmas.{first_more, first_still}
use Rattle.page_directives.proofs.known.add_new.Goals as goal

pub returns-in_ok-insert : goal.returns-in_ok-insert
returns-in_ok-insert c all has =
    first_more c.args.known.now c.insert.new.self c.as_str-name.result c.args.attribute all c.as_str-name.ensures (sym c.contains_key.ensures ∙ c.if-not-contains_key.true) c.in_ok-insert.ensures.updates has

pub returns-else-not-contains_key : goal.returns-else-not-contains_key
returns-else-not-contains_key c all has =
    first_still c.args.known.now c.as_str-name.result c.args.attribute.now all c.as_str-name.ensures (sym c.contains_key.ensures ∙ c.if-not-contains_key.false) has
