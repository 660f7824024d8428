-- How many arguments a call has.
use Rattle.std.proofs.Common.{◌≡◌, ◌+◌, List, [], ◌∷◌, map, length, refl, ap, ◌∙◌, arith}
use Rattle.el_reader.specs.declared.el.El.{El}
use Rattle.el_reader.specs.El.{tree_of}
use Rattle.el_reader.specs.Tree.{trees_of}
use Rattle.unit_words.specs.Values.{how_many}

pub how_many_is : (items : List El) → how_many (trees_of (map tree_of items)) ≡ length items
how_many_is [] = refl
how_many_is (item ∷ items) = ap (λ n. n + 1) (how_many_is items) ∙ more (length items)
  where
    more : (n : _) → n + 1 ≡ Rattle.std.specs.Prelude.suc n
    more n = omega arith
