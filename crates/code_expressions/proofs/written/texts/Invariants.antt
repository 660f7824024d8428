use Rattle.std.proofs.Common.{◌≡◌, ◌++◌, drop, map}
use Rattle.code_forms.specs.Codes.{form_code}
use Rattle.code_lowering.specs.Values.{texts_form}
use Rattle.unit_meaning.specs.Named.{part_of}
use Rattle.unit_nodes.specs.Views.{part_of as part_view}
use Rattle.code_expressions.proofs.written.texts.Given as goal

abbrev pub invariant-loop-part : goal.invariant-loop-part
invariant-loop-part l =
    l.code ++ form_code l.above (texts_form l.place (map part_of (map part_view (drop l.part-index l.parts)))) ≡ form_code l.ground (texts_form l.place (map part_of (map part_view l.parts)))
