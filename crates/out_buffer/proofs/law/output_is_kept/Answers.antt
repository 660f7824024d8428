use Rattle.std.proofs.Common.{◌≡◌, ◌+◌, ◌++◌, length, nat_lt}
use Rattle.out_buffer.specs.Laws.{IsWithin, output}
use Rattle.out_buffer.specs.Writer.{Writer, placed, put_limit}
use Rattle.out_buffer.proofs.OutputLemmas.{flushed_output, placed_outside, placed_stays, put_if_placed, written_behind, written_within}
use Rattle.out_buffer.proofs.law.output_is_kept.Goals as goal

pub returns : goal.returns
returns c = record {
  put_behind = λ bytes w within none.
      let counted : Writer = record w { count = w.count + length bytes } in
      put_if_placed (λ after. output after ≡ output w ++ bytes) (nat_lt put_limit (w.count + length bytes)) (placed w.kept bytes counted)
      (placed_outside (λ after. output after ≡ output w ++ bytes) w.kept bytes counted none (written_behind w.size bytes counted within));
  within = λ bytes w within.
      let counted : Writer = record w { count = w.count + length bytes } in
      put_if_placed (λ after. IsWithin w.size after.buffer) (nat_lt put_limit (w.count + length bytes)) (placed w.kept bytes counted)
      (placed_stays (λ after. IsWithin w.size after.buffer) w.kept bytes counted (written_within w.size bytes counted within) (λ bodies. within));
  flushed = λ w. flushed_output w.kept w;
}
