use Rattle.std.proofs.Common.{eqb, length, sym, ap, ◌∙◌}
use Rattle.page_pieces.proofs.EndCuts.{decides_yes, decides_no, decides_none}
use Rattle.page_pieces.proofs.end_reader.could_end.Goals as goal

pub returns-in-Some-clause-yes : goal.returns-in-Some-clause-yes
returns-in-Some-clause-yes c is =
    decides_yes c.args.prefix.now c.args.name.now c.args.text.now c.in-Some.rest.now c.in-Some.ensures (ap (λ t. eqb (length t) 0) (sym c.behind_white.ensures.value) ∙ sym c.is_empty.ensures ∙ is)

pub returns-in-Some-clause-no : goal.returns-in-Some-clause-no
returns-in-Some-clause-no c could =
    c.is_empty.ensures ∙ ap (λ t. eqb (length t) 0) c.behind_white.ensures.value ∙ decides_no c.args.prefix.now c.args.name.now c.args.text.now c.in-Some.rest.now c.in-Some.ensures could

pub returns-in-None-clause-no : goal.returns-in-None-clause-no
returns-in-None-clause-no c could = absurd (decides_none c.args.prefix.now c.args.name.now c.args.text.now c.in-None.ensures could)
