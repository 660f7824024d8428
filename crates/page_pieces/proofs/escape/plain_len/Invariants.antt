use Rattle.std.proofs.Common.{◌≡◌, ◌+◌, drop}
use Rattle.page_pieces.specs.ReadSigns.{plain_len}
use Rattle.page_pieces.proofs.escape.plain_len.Given as goal

abbrev pub invariant-loop-i : goal.invariant-loop-i
invariant-loop-i l = l.i + plain_len l.el (drop l.i l.text) ≡ plain_len l.el l.text
