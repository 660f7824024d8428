use Rattle.code_forms.proofs.ArrangingLemmas.{LookedAt}
use Rattle.code_forms.proofs.arranging.last_place.Given as goal

abbrev pub invariant-loop-at : goal.invariant-loop-at
invariant-loop-at l = LookedAt l.wanted l.names l.at l.found
