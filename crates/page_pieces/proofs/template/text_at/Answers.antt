use Rattle.std.proofs.Common.{sym, subst, arith}
use Rattle.std.specs.Str.{IsCharBoundary}
use Rattle.page_pieces.specs.Marks.{mark_at}
use Rattle.page_pieces.proofs.AtFront.Before.{some_before}
use Rattle.page_pieces.proofs.AtFront.Template.{text_cut}
use Rattle.page_pieces.proofs.template.text_at.Goals as goal

pub split_at-requires : goal.split_at-requires
split_at-requires c = subst (IsCharBoundary c.args.text.now) (sym c.text_len.ensures.value) (text_cut c.args.setting.now c.args.text.now c.utf8.text)

pub returns-clause-some : goal.returns-clause-some
returns-clause-some c = λ none some. omega (arith, some_before (mark_at c.args.setting.now) c.args.text.now none some)
