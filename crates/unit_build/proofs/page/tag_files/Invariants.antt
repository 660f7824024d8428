use Rattle.std.proofs.Common.{◌≡◌, map, take}
use Rattle.unit_source.specs.Placed.{root_view}
use Rattle.unit_words.specs.Unit.{tag_file}
use Rattle.unit_nodes.specs.Views.{tag_view}
use Rattle.unit_build.proofs.page.tag_files.Given as goal

abbrev pub invariant-loop-tag : goal.invariant-loop-tag
invariant-loop-tag l = map tag_view l.files.items ≡ map tag_file (map (λ tag. root_view tag.value) (take l.tag-index l.tags))
