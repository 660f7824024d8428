use Rattle.std.proofs.Common.{◌≡◌, ◌+◌, drop}
use Rattle.page_pieces.specs.ReadSigns.{signs_with, unmarked_len}
use Rattle.page_pieces.proofs.value_mark.unmarked_len.Given as goal

abbrev pub invariant-loop-i : goal.invariant-loop-i
invariant-loop-i l = l.i + unmarked_len l.setting (signs_with (drop l.i l.text) (drop l.i l.shields)) ≡ unmarked_len l.setting (signs_with l.text l.shields)
