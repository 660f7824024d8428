use Rattle.std.proofs.Common.{◌≡◌, ◌++◌, map}
use Rattle.pg_value.specs.Value.{entry_of}
use Rattle.unit_words.specs.Unit.{good_beans}
use Rattle.unit_judges.specs.Made.{class_made}
use Rattle.unit_build.proofs.page.good_beans.Given as goal

abbrev pub invariant-loop-class : goal.invariant-loop-class
invariant-loop-class l = map entry_of l.good.items ++ good_beans (map class_made l.class-iterator.rest.items) ≡ good_beans (map class_made l.fn.beans.items)
