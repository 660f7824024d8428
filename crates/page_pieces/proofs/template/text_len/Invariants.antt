use Rattle.page_pieces.proofs.AtFront.Template.{Counted}
use Rattle.page_pieces.proofs.template.text_len.Given as goal

abbrev pub invariant-loop-i : goal.invariant-loop-i
invariant-loop-i l = Counted l.setting l.text l.i
