use Rattle.std.proofs.Common.{◌==◌, ap, sym, ◌∙◌}
use Rattle.std.proofs.lemmas.List.Sorted.{list_any-IsPermutation}
use Rattle.jstl_functions.specs.Texts.{is_one_of}
use Rattle.jstl_functions.proofs.marks.marks_of.Goals as goal

pub returns-clause-same : goal.returns-clause-same
returns-clause-same c = λ mark.
    sym (list_any-IsPermutation (λ d. d == mark) _ _ c.sort_unstable.ensures.permutation) ∙ ap (λ all. is_one_of all mark) c.in_ok-marks.ensures
