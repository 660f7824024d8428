use Rattle.std.proofs.Common.{◌≡◌, ◌++◌, drop}
use Rattle.unit_source.specs.ReadParts.{ArePlain, in_parts}
use Rattle.unit_source.proofs.part.parts_of.Given as goal

abbrev pub invariant-loop-directive : goal.invariant-loop-directive
invariant-loop-directive l = record {
  plain : ArePlain l.plain;
  all : (in_parts l.parts ++ l.plain) ++ drop l.directive-index l.directives ≡ l.directives;
}
