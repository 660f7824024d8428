use Rattle.std.proofs.Common.{◌≡◌, drop, map}
use Rattle.std.specs.List.{find}
use Rattle.std.specs.Str.{bytes_eq}
use Rattle.unit_nodes.specs.Views.{given_of}
use Rattle.act_reader.proofs.named.attribute_named.Given as goal

abbrev pub invariant-loop-attribute : goal.invariant-loop-attribute
invariant-loop-attribute l = find (λ a. bytes_eq l.wanted a.name) (map given_of (drop l.attribute-index l.attributes)) ≡ find (λ a. bytes_eq l.wanted a.name) (map given_of l.attributes)
