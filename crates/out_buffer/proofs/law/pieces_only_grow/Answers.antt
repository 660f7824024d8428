use Rattle.std.proofs.Common.{◌≡◌, ◌+◌, ◌++◌, List, ℕ, [], length, nat_lt, sym, append-nil}
use Rattle.out_buffer.specs.Writer.{Writer, placed, put_limit}
use Rattle.out_buffer.proofs.OutputLemmas.{flushed_more, placed_stays, put_if_placed, written_more}
use Rattle.out_buffer.proofs.law.pieces_only_grow.Goals as goal

pub returns : goal.returns
returns c = record {
  put_more = λ bytes w.
      let counted : Writer = record w { count = w.count + length bytes } in
      put_if_placed (λ after. (more : List (List ℕ)) × (after.pieces ≡ w.pieces ++ more)) (nat_lt put_limit (w.count + length bytes)) (placed w.kept bytes counted)
      (placed_stays (λ after. (more : List (List ℕ)) × (after.pieces ≡ w.pieces ++ more)) w.kept bytes counted (written_more w.size bytes counted) (λ bodies. ([], sym (append-nil w.pieces))));
  flushed = λ w. flushed_more w.kept w;
}
