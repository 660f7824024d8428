use Rattle.std.proofs.Common.{◌+◌, ◌-◌, take, drop, ap, rules, ◌∙◌}
use Rattle.std.proofs.lemmas.List.{with_items_is, places}
use borrow.Rule.Slice.PartMut.{put_mid}
use Rattle.http_in.proofs.Buffered.{filled}
use Rattle.http_in.proofs.read_buffer.ReadBuffer.fill.Goals as goal

pub returns-clause-bytes : goal.returns-clause-bytes
returns-clause-bytes g c =
    let b = c.self.inside in
    let had = c.deref_mut.result.now in
    let piece = c.read.new.into in
    let count = c.in-Ok.count in
    let room = b.read + 4096 - b.read in
    let written = with_items_is c.lengthen.new.bytes (put_mid b.read room had piece) (search (rules, places)) in
    record {
      piece = take count piece;
      consumed = c.in-Ok.ensures.bytes.0;
      grown = ap (λ items. drop b.used (take (b.read + count) items)) written
          ∙ filled b.bytes.items had piece b.used b.read room count c.args.self.now
          c.self.invariant.0 c.self.invariant.1 (rw c.deref_mut.ensures.value c.lengthen.ensures.front) c.in-Ok.ensures.bound.0 (c.self.view_is ∙ c.move_to_front.ensures);
    }
