use Rattle.std.proofs.Common.{◌≡◌, drop}
use Rattle.site_words.specs.Opening.{are_distinct}
use Rattle.site_core.proofs.opening.are_distinct.Given as goal

abbrev pub invariant-loop-index : goal.invariant-loop-index
invariant-loop-index l = are_distinct (drop l.index l.sessions) ≡ are_distinct l.sessions
