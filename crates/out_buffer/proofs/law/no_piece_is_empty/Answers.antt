use Rattle.std.proofs.Common.{◌+◌, length, nat_lt}
use Rattle.out_buffer.specs.Writer.{Writer, placed, put_limit}
use Rattle.out_buffer.proofs.OutputLemmas.{placed_stays, put_if_placed}
use Rattle.out_buffer.proofs.SomePieces.{AllSome, flushed_some, written_some}
use Rattle.out_buffer.proofs.law.no_piece_is_empty.Goals as goal

pub returns : goal.returns
returns c = record {
  put_some = λ bytes w within so_far.
      let counted : Writer = record w { count = w.count + length bytes } in
      put_if_placed (λ after. AllSome after.pieces) (nat_lt put_limit (w.count + length bytes)) (placed w.kept bytes counted)
      (placed_stays (λ after. AllSome after.pieces) w.kept bytes counted (written_some w.size bytes counted within so_far) (λ bodies. so_far));
  flushed = λ w so_far. flushed_some w.kept w so_far;
}
