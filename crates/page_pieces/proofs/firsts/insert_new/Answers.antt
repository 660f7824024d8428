use Rattle.std.proofs.Common.{sym, ap, ◌∙◌}
use Rattle.std.specs.BTreeMap.{get_by_text}
use Rattle.std.specs.Option.{is_some}
use Rattle.page_pieces.proofs.FirstLemmas.{firsts_more, firsts_still}
use Rattle.page_pieces.proofs.firsts.insert_new.Goals as goal

pub returns-in_ok-insert : goal.returns-in_ok-insert
returns-in_ok-insert c before at has =
    firsts_more c.args.firsts.now c.insert.new.self c.in_ok-from_str.field-0 c.args.at before c.args.attribute.now at (c.in_ok-from_str.ensures.ok ∙ c.as_str-name.ensures)
    (ap (λ name. is_some (get_by_text c.args.firsts.now name)) (sym c.as_str-name.ensures) ∙ (sym c.contains_key.ensures ∙ c.if-not-contains_key.true)) c.in_ok-insert.ensures.updates has

pub returns-else-not-contains_key : goal.returns-else-not-contains_key
returns-else-not-contains_key c before at has =
    firsts_still c.args.firsts.now before c.args.attribute.now
    (ap (λ name. is_some (get_by_text c.args.firsts.now name)) (sym c.as_str-name.ensures) ∙ (sym c.contains_key.ensures ∙ c.if-not-contains_key.false)) has
