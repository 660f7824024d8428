use Rattle.std.proofs.Common.{rules}
use Rattle.std.specs.Cmp.Lexicographic.{nat_list_cmp_total}
use Rattle.std.proofs.lemmas.Fn.{always_returns_same}
use Rattle.std.proofs.lemmas.List.Sorted.{ranks_by}
use Rattle.run_values.proofs.name_lists.by_name.Goals as goal

pub returns : goal.returns
returns c =
    c.in_ok-sort_by.ensures.stable _ (ranks_by nat_list_cmp_total (λ e. e.0)) (always_returns_same _ _ _ (λ a r f' k. search rules))
