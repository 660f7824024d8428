use Rattle.std.proofs.Common.{◌≡◌, ◌≤◌, ◌+◌, drop}
use Rattle.page_pieces.specs.Spots.{spot_after}
use Rattle.page_pieces.proofs.spot.Spot.after_bytes.Given as goal

abbrev pub invariant-loop-b : goal.invariant-loop-b
invariant-loop-b l = record {
  value : spot_after l.spot (drop l.b-index l.bytes) ≡ spot_after l.fn.self l.bytes;
  byte : l.spot.byte ≡ l.fn.self.byte + l.b-index;
  line : l.spot.line ≤ l.spot.byte + 1;
  column : l.spot.column ≤ l.spot.byte + 1;
}
