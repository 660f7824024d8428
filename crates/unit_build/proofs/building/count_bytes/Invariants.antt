use Rattle.std.proofs.Common.{◌≡◌, ◌+◌, drop}
use Rattle.unit_source.specs.Files.{text_in}
use Rattle.unit_words.specs.Needs.{bytes_of}
use Rattle.unit_build.proofs.building.count_bytes.Given as goal

abbrev pub invariant-loop-name : goal.invariant-loop-name
invariant-loop-name g l = l.steps + bytes_of (text_in l.tree) (drop l.name-index l.names) ≡ l.fn.steps + bytes_of (text_in l.tree) l.names
