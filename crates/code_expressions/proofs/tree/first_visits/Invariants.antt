use Rattle.std.proofs.Common.{◌≡◌, ◌+◌}
use Rattle.el_reader.specs.El.{tree_of}
use Rattle.el_reader.specs.declared.el.El.{size-El}
use Rattle.code_lowering.specs.Expressions.{first_visits}
use Rattle.code_expressions.proofs.tree.first_visits.Given as goal

abbrev pub decreases-loop-count : goal.decreases-loop-count
decreases-loop-count l = size-El l.first

-- those so far, and the first ones of what is left, are those of the whole
abbrev pub invariant-loop-count : goal.invariant-loop-count
invariant-loop-count l = l.count + first_visits (tree_of l.first) ≡ l.before + first_visits (tree_of l.el)
