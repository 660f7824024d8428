use Rattle.std.specs.Prelude.{map, take}
use Rattle.run_world.proofs.program.know_tags.Given as goal
use Rattle.run_world.specs.Tags.{tag_of}
use Rattle.page_table.specs.Checked.{TagsFit}

abbrev pub invariant-loop-tag : goal.invariant-loop-tag
invariant-loop-tag l = TagsFit (map tag_of (take l.tag-index l.tags))
