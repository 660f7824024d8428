use Rattle.std.proofs.Common.{◌≡◌, ◌+◌, drop, map}
use Rattle.site_words.specs.Runs.{promised}
use Rattle.site_state.specs.Parts.{under_in}
use Rattle.site_state.proofs.request.promised.Given as goal

abbrev pub invariant-loop-request : goal.invariant-loop-request
invariant-loop-request l = l.sum + promised (map under_in (drop l.request-index l.runs)) ≡ promised (map under_in l.runs)
