use Rattle.std.proofs.Common.{◌≡◌, drop, map}
use Rattle.act_reader.specs.Before.{attributes_before}
use Rattle.page_meaning.specs.Page.{Attributes}
use Rattle.unit_meaning.specs.Kinds.{statics_of}
use Rattle.unit_meaning.specs.Named.{written_before}
use Rattle.unit_nodes.specs.Views.{given_of, kind_of}
use Rattle.act_reader.proofs.attributes.written.Given as goal

abbrev pub invariant-loop-attribute : goal.invariant-loop-attribute
invariant-loop-attribute l =
    (others : Attributes) → attributes_before l.all.items (written_before (statics_of (kind_of l.kind)) (map given_of (drop l.attribute-index l.attributes)) others)
    ≡ written_before (statics_of (kind_of l.kind)) (map given_of l.attributes) others
