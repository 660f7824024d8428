-- Paths in order stand in the order of themselves.
use Rattle.std.proofs.Common.{◌≡◌, ℕ, List, [], ◌∷◌, arith}
use Rattle.std.specs.List.{All, AllByRecursion}
use Rattle.std.specs.List.Sorted.{IsStrictlySortedBy}
use Rattle.std.specs.declared.cmp.Ordering.TheVariants.{Less}
use Rattle.std.proofs.lemmas.List.Elements.{All-cons}
use Rattle.std.proofs.lemmas.List.Kept.{AllPairs-cons}
use Rattle.pg_text.specs.Names.{AreInOrder}
use Rattle.pg_text.specs.Order.{AreRising, path_cmp}
use Rattle.pg_text.proofs.ItemLemmas.{IsBelow}
use Rattle.dep_graph.specs.Deps.{itself}

pub rising_names : (paths : List (List ℕ)) → AreInOrder paths → AreRising itself paths
unfolding IsStrictlySortedBy
rising_names [] sorted = λ i j d before within. absurd (omega arith)
rising_names (path ∷ paths) sorted = AllPairs-cons (IsBelow itself) path paths (all_below paths sorted.0) (rising_names paths sorted.1)
  where
    all_below : (paths : List (List ℕ)) → AllByRecursion (λ other. path_cmp path other ≡ Less) paths → All (λ other. path_cmp path other ≡ Less) paths
    all_below [] all = λ k d within. absurd (omega arith)
    all_below (other ∷ paths) all = All-cons (λ other. path_cmp path other ≡ Less) other paths all.0 (all_below paths all.1)
