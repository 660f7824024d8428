use Rattle.std.proofs.Common.{◌<◌, ◌≤◌, arith, length}
use Rattle.std.proofs.lemmas.List.{length-set, take_all, take_more_set}
use Rattle.journal_reader.proofs.ItemLemmas.{all_read, next_read, next_stops}
use Rattle.journal_reader.proofs.Parts.{passed}
use Rattle.journal_reader.proofs.Tags.{IsByte, of_byte}
use Rattle.journal_reader.proofs.numbers.array.Goals as goal

pub returns-in_err-bytes : goal.returns-in_err-bytes
returns-in_err-bytes g c =
    passed c.from_residual.result c.from_residual.ensures.1 (next_stops IsByte of_byte c.loop-at.at _ (omega arith) c.loop-at.invariant.read c.in_err-bytes.ensures)

pub loop-at-preserved : goal.loop-at-preserved
loop-at-preserved g c =
    let size = c.loop-at.invariant.size in
    let within : c.loop-at.at < length c.loop-at.bytes = omega arith in
    record {
      read = rw (take_more_set c.loop-at.bytes c.loop-at.at _ within) (next_read IsByte of_byte c.loop-at.at c.loop-at.invariant.read c.in_ok-bytes.ensures);
      size = simp length-set size;
    }

pub returns : goal.returns
returns g c =
    let size = c.loop-at.invariant.size in
    let past : length c.loop-at.bytes ≤ c.loop-at.at = omega arith in
    let all = take_all c.loop-at.at c.loop-at.bytes past in
    rw all at (all_read IsByte of_byte c.loop-at.at g.row.N (omega arith) c.loop-at.invariant.read)
