use Rattle.std.proofs.Common.{sym, ap, ◌∙◌}
use Rattle.std.specs.Option.{is_some}
use Rattle.page_pieces.proofs.FirstLemmas.{name_there}
use Rattle.page_pieces.proofs.firsts.is_first.Goals as goal

pub returns : goal.returns
returns c attributes has = c.contains_key.ensures ∙ (ap is_some (has c.args.name.now) ∙ sym (name_there c.args.name.now attributes))
