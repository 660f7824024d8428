use Rattle.page_pieces.proofs.AtFront.MarkLoop.{around_is}
use Rattle.page_pieces.proofs.texts.around.Goals as goal

pub returns-clause-value : goal.returns-clause-value
returns-clause-value c = around_is c.split_once.result c.args.mark.now c.args.text.now c.requires c.split_once.ensures.cases
