use Rattle.std.proofs.Common.{◌≤◌, length}
use Rattle.tag_decl.proofs.FirstLemmas.{HasFirstsFrom}
use Rattle.tag_decl.proofs.attr_decls.firsts_of.Given as goal

abbrev pub invariant-loop-at : goal.invariant-loop-at
invariant-loop-at l = record {
  within : l.at ≤ length l.decls;
  has : HasFirstsFrom l.at l.firsts l.decls;
}

abbrev pub decreases-loop-at : goal.decreases-loop-at
decreases-loop-at l = l.at
