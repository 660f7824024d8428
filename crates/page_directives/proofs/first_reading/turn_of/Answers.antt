use Rattle.std.proofs.Common.{◌+◌, take, codes, sym, ◌∙◌, arith}
use Rattle.std.specs.Option.{option_map}
use Rattle.page_directives.proofs.FirstLemmas.{decided_front, turned}
use Rattle.page_directives.proofs.KnownLemmas.{text_now}
use Rattle.page_directives.proofs.first_reading.turn_of.Goals as goal

pub returns-then-lacks_both : goal.returns-then-lacks_both
returns-then-lacks_both c =
    let i = c.loop-i.i in
    let ds = c.args.directives.now in
    let buffer =
    decided_front c.args.in_tag ds i c.index-directives-i.result (codes "buffer") (option_map text_now c.decided_with-buffer.result) c.loop-i-test.true c.index-directives-i.is
    (c.decided_with-buffer.ensures (take i ds) c.loop-i.invariant.buffer) in
    let auto_flush =
    decided_front c.args.in_tag ds i c.index-directives-i.result (codes "autoFlush") (option_map text_now c.decided_with-auto_flush.result) c.loop-i-test.true c.index-directives-i.is
    (c.decided_with-auto_flush.ensures (take i ds) c.loop-i.invariant.auto_flush) in
    record {
      within = omega (arith, c.loop-i-test.true);
      before = c.loop-i.invariant.undecided;
      behind = λ within. turned c.args.in_tag (take (i + 1) ds) _ _ buffer auto_flush ∙ (sym c.lacks_both.ensures ∙ c.if-lacks_both.true);
    }

pub loop-i-preserved : goal.loop-i-preserved
loop-i-preserved c =
    let i = c.loop-i.i in
    let ds = c.args.directives.now in
    let buffer =
    decided_front c.args.in_tag ds i c.index-directives-i.result (codes "buffer") (option_map text_now c.decided_with-buffer.result) c.loop-i-test.true c.index-directives-i.is
    (c.decided_with-buffer.ensures (take i ds) c.loop-i.invariant.buffer) in
    let auto_flush =
    decided_front c.args.in_tag ds i c.index-directives-i.result (codes "autoFlush") (option_map text_now c.decided_with-auto_flush.result) c.loop-i-test.true c.index-directives-i.is
    (c.decided_with-auto_flush.ensures (take i ds) c.loop-i.invariant.auto_flush) in
    record { buffer = buffer; auto_flush = auto_flush; undecided = turned c.args.in_tag (take (i + 1) ds) _ _ buffer auto_flush ∙ (sym c.lacks_both.ensures ∙ c.if-lacks_both.false) }
