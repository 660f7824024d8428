use Rattle.std.proofs.Common.{◌≡◌, drop, map}
use Rattle.page_meaning.specs.Tags.{tag_at}
use Rattle.unit_meaning.specs.Shape.{tag_of}
use Rattle.unit_nodes.specs.Views.{tag_view}
use Rattle.code_nodes.proofs.calls.tag_at.Given as goal

abbrev pub invariant-loop-tag : goal.invariant-loop-tag
invariant-loop-tag l = tag_at l.path (map tag_of (map tag_view (drop l.tag-index l.tags))) ≡ tag_at l.path (map tag_of (map tag_view l.tags))
