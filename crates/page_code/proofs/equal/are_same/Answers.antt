use Rattle.std.proofs.Common.{sym, ◌∙◌}
use Rattle.page_code.proofs.Levels.{levels_decide}
use Rattle.page_code.proofs.equal.are_same.Goals as goal

pub returns : goal.returns
returns c = λ t. (levels_decide c.args.a.now c.args.b.now).0 (sym c.eq.ensures ∙ t)
