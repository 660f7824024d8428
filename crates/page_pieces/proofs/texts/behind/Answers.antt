use Rattle.page_pieces.proofs.AtFront.MarkLoop.{mark_boundary}
use Rattle.page_pieces.proofs.texts.behind.Goals as goal

pub split_at-requires : goal.split_at-requires
split_at-requires c = mark_boundary c.args.mark.now c.args.text.now c.utf8.text c.utf8.mark c.requires
