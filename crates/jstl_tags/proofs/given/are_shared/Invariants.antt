use Rattle.std.proofs.Common.{◌≡◌, drop}
use Rattle.std.specs.List.{list_any}
use Rattle.page_pieces.specs.Settings.{contains_text}
use Rattle.jstl_tags.specs.Content.{attribute_names}
use Rattle.jstl_tags.specs.Given.{part_names_made}
use Rattle.jstl_tags.proofs.given.are_shared.Given as goal

abbrev pub invariant-loop-attribute : goal.invariant-loop-attribute
invariant-loop-attribute l = list_any (λ name. contains_text name (part_names_made l.given)) (attribute_names (drop l.attribute-index l.attribute-items)) ≡ list_any (λ name. contains_text name (part_names_made l.given)) (attribute_names l.given.attributes.now)
