use Rattle.std.proofs.Common.{◌≡◌, ◌≤◌, map, drop}
use Rattle.el_reader.specs.El.{tree_of, pair_of}
use Rattle.el_reader.specs.Tree.{trees_of, pairs_of}
use Rattle.el_reader.specs.declared.el.El.{size-El}
use Rattle.unit_words.specs.Kinds.{is_function_prefix}
use Rattle.unit_words.specs.Values.{are_functions, are_all_functions, are_pairs_functions}
use Rattle.unit_judges.proofs.functions.+functions.Given as goal

abbrev pub invariant-are_functions-left : goal.invariant-are_functions-left
invariant-are_functions-left l =
    (are_functions (is_function_prefix l.before.directives) (tree_of l.part) ≡ are_functions (is_function_prefix l.fn.before.directives) (tree_of l.el))
    × (size-El l.part ≤ size-El l.el)

abbrev pub invariant-are_all_functions-loop-item : goal.invariant-are_all_functions-loop-item
invariant-are_all_functions-loop-item l =
    are_all_functions (is_function_prefix l.before.directives) (trees_of (map tree_of (drop l.item-index l.items))) ≡ are_all_functions (is_function_prefix l.fn.before.directives) (trees_of (map tree_of l.items))

abbrev pub invariant-are_pairs_functions-loop-key : goal.invariant-are_pairs_functions-loop-key
invariant-are_pairs_functions-loop-key l =
    are_pairs_functions (is_function_prefix l.before.directives) (pairs_of (map pair_of (drop l.key-index l.pairs))) ≡ are_pairs_functions (is_function_prefix l.fn.before.directives) (pairs_of (map pair_of l.pairs))
