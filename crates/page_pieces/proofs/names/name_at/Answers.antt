use Rattle.std.proofs.Common.{sym, ap, ◌∙◌, subst}
use Rattle.std.specs.Str.{IsCharBoundary}
use Rattle.page_pieces.specs.Names.{name_len}
use Rattle.page_pieces.proofs.NameLemmas.{name_cut}
use Rattle.page_pieces.proofs.names.name_at.Goals as goal

pub split_at-requires : goal.split_at-requires
split_at-requires c = subst (IsCharBoundary c.args.text.now) (sym (c.name_len-len.ensures.value ∙ ap name_len c.as_bytes.ensures.value)) (name_cut c.args.text.now c.utf8.text)
