use Rattle.page_pieces.proofs.AtFront.MarkLoop.{after_is}
use Rattle.page_pieces.proofs.texts.after.Goals as goal

pub returns-clause-value : goal.returns-clause-value
returns-clause-value c = after_is c.strip_prefix.result c.args.mark.now c.args.text.now c.strip_prefix.ensures.cases
