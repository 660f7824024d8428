use Rattle.std.proofs.Common.{◌≡◌, ◌+◌, ◌*◌, ◌++◌, max, map, drop}
use Rattle.el_reader.specs.Chain.{right_of}
use Rattle.el_reader.specs.El.{pair_of, tree_of}
use Rattle.el_reader.specs.Tree.{pairs_of, trees_of}
use Rattle.el_reader.specs.declared.el.El.{size-El}
use Rattle.code_expressions.specs.Chain.{links_form}
use Rattle.code_forms.specs.Codes.{form_code}
use Rattle.code_lowering.specs.Expressions.{pairs_form, trees_form, value_form}
use Rattle.code_expressions.proofs.tree.+expression.Given as goal

-- a part is less deep than the whole by one at least, but for the first of a chain
abbrev pub decreases-expression : goal.decreases-expression
decreases-expression l = 6 * goal.size-expression l + 4

abbrev pub decreases-value : goal.decreases-value
decreases-value l = 6 * goal.size-value l + 3

abbrev pub decreases-operand : goal.decreases-operand
decreases-operand l = 6 * goal.size-operand l

abbrev pub decreases-first_link : goal.decreases-first_link
decreases-first_link l = max (6 * goal.size-first_link l) (6 * size-El (right_of l.link.now) + 5) + 2

abbrev pub decreases-whole_link : goal.decreases-whole_link
decreases-whole_link l = max (6 * goal.size-whole_link l) (6 * size-El (right_of l.link.now) + 5) + 1

abbrev pub decreases-next_link : goal.decreases-next_link
decreases-next_link l = 6 * size-El (right_of l.link.now) + 5

abbrev pub decreases-expressions : goal.decreases-expressions
decreases-expressions l = 6 * goal.size-expressions l + 5

abbrev pub decreases-entries : goal.decreases-entries
decreases-entries l = 6 * goal.size-entries l + 5

-- the code so far, and that of what is left, are that of the whole
abbrev pub invariant-value-loop-link : goal.invariant-value-loop-link
invariant-value-loop-link l = l.code ++ form_code l.ground (links_form l.place (drop l.link-index l.links)) ≡ form_code l.ground (value_form l.place (tree_of l.el))

abbrev pub invariant-expressions-loop-item : goal.invariant-expressions-loop-item
invariant-expressions-loop-item l =
    l.code ++ form_code l.above (trees_form l.place (trees_of (map tree_of (drop l.item-index l.items)))) ≡ form_code l.ground (trees_form l.place (trees_of (map tree_of l.items)))

abbrev pub invariant-entries-loop-key : goal.invariant-entries-loop-key
invariant-entries-loop-key l =
    l.code ++ form_code l.above (pairs_form l.place (pairs_of (map pair_of (drop l.key-index l.pairs)))) ≡ form_code l.ground (pairs_form l.place (pairs_of (map pair_of l.pairs)))
