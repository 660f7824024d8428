use Rattle.std.proofs.Common.{◌≡◌, drop, map}
use Rattle.page_directives.specs.Directive.{row_of}
use Rattle.unit_judges.specs.Made.{class_made}
use Rattle.unit_build.proofs.found.bean_in.Given as goal

abbrev pub invariant-loop-name : goal.invariant-loop-name
invariant-loop-name l = row_of l.class (map class_made (drop l.name-index l.beans)) ≡ row_of l.class (map class_made l.beans)
