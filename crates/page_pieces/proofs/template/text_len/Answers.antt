use Rattle.std.proofs.Common.{◌<◌, length, get_or, refl, sym, ap, ◌∙◌, arith}
use Rattle.std.specs.Option.{is_some}
use Rattle.page_pieces.specs.Marks.{mark_at}
use Rattle.page_pieces.proofs.AtFront.Template.{may_mark, one_more, no_mark, none_there}
use Rattle.page_pieces.proofs.template.text_len.Goals as goal
use Rattle.page_pieces.proofs.template.text_len.Goals.{then-may_mark+else-is_some, else-may_mark}

pub loop-i-preserved : goal.loop-i-preserved
loop-i-preserved c =
    let text = c.args.text.now in
    let setting = c.args.setting.now in
    let within : c.loop-i.i < length text = grind arith in
    elim c.if-may_mark.branch [
      | then-may_mark+else-is_some w ↦ one_more _ c.loop-i.invariant within refl (ap (mark_at setting) (sym w.split_at.ensures.back) ∙ none_there _ (ap is_some (sym w.mark_at.ensures) ∙ sym w.is_some.ensures ∙ w.if-is_some.false))
      | else-may_mark w ↦ one_more _ c.loop-i.invariant within refl (no_mark setting text _ _ within refl (ap (λ t. may_mark (get_or t c.loop-i.i 0)) (sym c.as_bytes-b-items.ensures.value) ∙ sym c.may_mark.ensures ∙ w.if-may_mark.false))
    ]
