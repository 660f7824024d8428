use Rattle.std.proofs.Common.{◌∙◌}
use Rattle.page_pieces.proofs.NameListLemmas.{among_is}
use Rattle.page_pieces.proofs.name_set.knows.Goals as goal

pub returns : goal.returns
returns c names has = c.contains.ensures ∙ (has c.args.name.now ∙ among_is c.args.name.now names)
