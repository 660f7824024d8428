use Rattle.std.proofs.Common.{List, ◌++◌, take}
use Rattle.page_pieces.specs.declared.attribute.Attribute.{Attribute}
use Rattle.page_directives.specs.ReadKnown.{HasFirst}
use Rattle.page_directives.proofs.known.add_first.Given as goal

abbrev pub invariant-loop-attribute : goal.invariant-loop-attribute
invariant-loop-attribute l = (all : List Attribute) → HasFirst l.fn.known all → HasFirst l.known (all ++ take l.attribute-index l.attributes)
