use Rattle.std.proofs.Common.{◌+◌, ◌∙◌, take, drop, sym, ap}
use Rattle.page_pieces.specs.Repeats.{has_name}
use Rattle.page_pieces.proofs.RepeatLemmas.{hits, hits_all, hits_more, names_none, names_more, front_more, rest_more, was_new}
use Rattle.page_pieces.proofs.attribute.has_repeat.Goals as goal

pub loop-attribute-init : goal.loop-attribute-init
loop-attribute-init c = record { seen = names_none c.new-seen.result c.new-seen.ensures.empty; left = hits_all c.args.attributes.now }

pub loop-attribute-preserved : goal.loop-attribute-preserved
loop-attribute-preserved c =
    let a = c.attribute-item.result in
    let i = c.loop-attribute.attribute-index in
    let front = front_more c.args.attributes.now i a c.loop-attribute-test.true c.attribute-item.is in
    let rest = rest_more c.args.attributes.now i a c.loop-attribute-test.true c.attribute-item.is in
    let new = was_new c.loop-attribute.seen c.as_str.result (take i c.args.attributes.now) a c.in_ok-insert.field-0 c.as_str.ensures c.loop-attribute.invariant.seen c.in_ok-insert.ensures.added c.if-not-branch.false in
    record {
      seen = λ name.
          names_more c.loop-attribute.seen c.insert.new.self c.as_str.result _ a c.as_str.ensures c.loop-attribute.invariant.seen c.in_ok-insert.ensures.updates name ∙ ap (has_name name.now) (sym front);
      left =
          (λ j. hits (front j) (drop (i + 1) c.args.attributes.now))
          ∙ sym (hits_more (take i c.args.attributes.now) (drop (i + 1) c.args.attributes.now) a new)
          ∙ ap (hits (take i c.args.attributes.now)) (sym rest)
          ∙ c.loop-attribute.invariant.left;
    }
