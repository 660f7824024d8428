use Rattle.std.proofs.Common.{◌≡◌, length, take, Ok}
use Rattle.std.specs.Prelude.{flat_map}
use Rattle.journal_reader.proofs.Tags.{IsByte, of_byte}
use Rattle.journal_reader.specs.Reads.{AreSo, Reads}
use Rattle.journal_reader.proofs.numbers.array.Given as goal

-- the first bytes were read, and there is room for all
abbrev pub invariant-loop-at : goal.invariant-loop-at
invariant-loop-at g l = record {
  read : Reads (AreSo l.at IsByte) (flat_map of_byte) (g.S.Source.left l.fn.source) (g.S.Source.left l.source) l.fn.room l.room (g.S.Source.faults l.fn.source) (g.S.Source.faults l.source) (Ok (take l.at l.bytes));
  size : length l.bytes ≡ g.row.N;
}
