use Rattle.std.proofs.Common.{◌≡◌, length}
use denote.Text.{Utf8}
use denote.Shadow.{shadow}
use Rattle.page_pieces.specs.ReadValue.{parts_of}
use Rattle.page_pieces.specs.ReadSigns.{signs_with}
use Rattle.page_pieces.proofs.AttributeValues.Parts.{with_front}
use Rattle.page_pieces.proofs.value.parts_of.Given as goal

abbrev pub invariant-loop-parts : goal.invariant-loop-parts
invariant-loop-parts l = record {
  text : shadow (Utf8 l.rest);
  same : length l.rest ≡ length l.flags;
  value : with_front l.parts (parts_of l.setting (signs_with l.rest l.flags)) ≡ parts_of l.setting (signs_with l.text l.shields);
}

abbrev pub decreases-loop-parts : goal.decreases-loop-parts
decreases-loop-parts l = length l.rest
