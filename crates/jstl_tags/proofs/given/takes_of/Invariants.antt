use Rattle.std.proofs.Common.{◌≡◌, drop}
use Rattle.std.specs.Prelude.{map}
use Rattle.page_directives.specs.Directive.{row_of}
use Rattle.jstl_tags.proofs.given.takes_of.Given as goal

abbrev pub invariant-loop-attribute : goal.invariant-loop-attribute
invariant-loop-attribute l = row_of l.name (map (λ attribute. (attribute.0.now, attribute.1)) (drop l.attribute-index l.attributes)) ≡ row_of l.name (map (λ attribute. (attribute.0.now, attribute.1)) l.attributes)
