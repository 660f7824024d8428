use Rattle.std.proofs.Common.{sym, subst}
use Rattle.std.specs.Str.{IsCharBoundary}
use Rattle.page_pieces.proofs.NameLemmas.{white_cut}
use Rattle.page_pieces.proofs.names.behind_white.Goals as goal

pub split_at-requires : goal.split_at-requires
split_at-requires c = subst (IsCharBoundary c.args.text.now) (sym c.white_len.ensures.value) (white_cut c.args.text.now c.utf8.text)
