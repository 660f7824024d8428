-- How two paths stand to each other.
use Rattle.std.proofs.Common.{◌≡◌, ℕ, List, ap, sym, ◌∙◌}
use Rattle.std.specs.Ordering.{is_eq, ordering_reverse}
use Rattle.std.specs.Str.{bytes_eq}
use Rattle.std.specs.declared.cmp.Ordering.{Ordering}
use Rattle.std.specs.declared.cmp.Ordering.TheVariants.{Less, Greater}
use Rattle.std.proofs.lemmas.Cmp.{nat_list_cmp_total}
use Rattle.std.proofs.lemmas.Map.Text.{is_eq-slice_cmp}
use Rattle.pg_text.specs.Order.{path_cmp}

-- of two paths one is below the other where that one is above it
pub below_from_above : (a b : List ℕ) → path_cmp a b ≡ Greater → path_cmp b a ≡ Less
below_from_above a b above = nat_list_cmp_total.antisymm b a ∙ ap ordering_reverse above

pub above_from_below : (a b : List ℕ) → path_cmp a b ≡ Less → path_cmp b a ≡ Greater
above_from_below a b below = nat_list_cmp_total.antisymm b a ∙ ap ordering_reverse below

-- two paths are equal as their order says
pub eq_tested : (a b : List ℕ) (o : Ordering) → path_cmp a b ≡ o → bytes_eq a b ≡ is_eq o
eq_tested a b o is = sym (is_eq-slice_cmp a b) ∙ ap is_eq is
