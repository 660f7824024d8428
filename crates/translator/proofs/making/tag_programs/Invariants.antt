use Rattle.std.proofs.Common.{◌≡◌, map, take}
use Rattle.code_lowering.specs.Programs.{tag_code_of}
use Rattle.unit_meaning.specs.Shape.{page_of, tag_of as shape_of}
use Rattle.run_world.specs.Tags.{tag_of}
use Rattle.unit_nodes.specs.Views.{page_view, tag_view}
use Rattle.translator.proofs.making.tag_programs.Given as goal

abbrev pub invariant-loop-tag : goal.invariant-loop-tag
invariant-loop-tag l = map tag_of l.tags ≡ map (tag_code_of (page_of (page_view l.page))) (map shape_of (map tag_view (take l.tag-index l.page.tags.items)))
