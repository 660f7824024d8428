use Rattle.std.proofs.Common.{◌≡◌, drop, map}
use Rattle.site_words.specs.Fits.{at_rest}
use Rattle.site_state.specs.Parts.{under_in}
use Rattle.site_core.proofs.condition.at_rest.Given as goal

abbrev pub invariant-loop-request : goal.invariant-loop-request
invariant-loop-request l = at_rest (map under_in (drop l.request-index l.runs)) ≡ at_rest (map under_in l.runs)
