use Rattle.std.proofs.Common.{◌≡◌, ◌+◌, ◌*◌, drop}
use Rattle.unit_source.specs.Files.{text_in}
use Rattle.unit_source.specs.First.{first_all, first_within}
use Rattle.unit_source.specs.ReadFirst.{told_behind}
use Rattle.unit_source.specs.ReadParts.{in_parts}
use Rattle.unit_source.proofs.first.+first.Given as goal

abbrev pub decreases-read_first : goal.decreases-read_first
decreases-read_first l = 4 * l.deep

abbrev pub decreases-read_included : goal.decreases-read_included
decreases-read_included l = 4 * l.deep + 1

abbrev pub decreases-read_part : goal.decreases-read_part
decreases-read_part l = 4 * l.deep + 2

abbrev pub decreases-read_parts : goal.decreases-read_parts
decreases-read_parts l = 4 * l.deep + 3

abbrev pub invariant-read_parts-loop-part : goal.invariant-read_parts-loop-part
invariant-read_parts-loop-part l = record {
  files : l.files ≡ l.fn.files;
  first : told_behind l.found (first_all (first_within l.deep (text_in l.fn.files) l.chain) (text_in l.fn.files) l.chain l.found.volume (in_parts (drop l.part-index l.parts)))
      ≡ told_behind l.fn.found (first_all (first_within l.deep (text_in l.fn.files) l.chain) (text_in l.fn.files) l.chain l.fn.found.volume (in_parts l.parts));
}
