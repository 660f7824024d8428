use Rattle.std.proofs.Common.{◌≡◌, ◌++◌, length}
use denote.Text.{Utf8}
use denote.Shadow.{shadow}
use Rattle.page_pieces.specs.Values.{signs_of}
use Rattle.page_pieces.proofs.unescaped.Unescaped.of.Given as goal

abbrev pub invariant-loop-unescaped : goal.invariant-loop-unescaped
invariant-loop-unescaped l = record {
  text : shadow (Utf8 l.rest);
  same : l.unescaped ++ signs_of l.el l.rest ≡ signs_of l.el l.value;
}

abbrev pub decreases-loop-unescaped : goal.decreases-loop-unescaped
decreases-loop-unescaped l = length l.rest
