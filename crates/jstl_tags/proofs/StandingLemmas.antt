-- What stands among nodes, and the questions asked of them.
use Rattle.std.proofs.Common.{◌≡◌, ℕ, Bool, true, false, cond, List, [], ◌∷◌, ◌++◌, suc, length, arith, refl, ap}
use Rattle.std.specs.Prelude.{◌==◌, ◌||◌, not, map}
use Rattle.std.specs.List.{list_all}
use Rattle.std.proofs.lemmas.Bool.Decides.{nat_tests}
use Rattle.page_pieces.specs.declared.piece.Tag.{Tag}
use Rattle.page_pieces.specs.declared.piece.Leaf.TheVariants as leaves
use Rattle.page_pieces.specs.Names.{is_white}
use Rattle.page_reader.specs.Trees.{Tree, done, leaf, element}
use Rattle.jstl_tags.specs.declared.standing.Standing.{Standing as Made}
use Rattle.jstl_tags.specs.Content.{is_empty, has_other, has_element, has_two, part_name, part_names}
use Rattle.jstl_tags.specs.Standing.{Standing, blank, other, standing_in, standing_made, part_names_in}
use Rattle.jstl_tags.specs.ReadStanding.{other_stands, element_stands, two_stand, nothing_stands}

pub empty_is : (t : Tree) → is_empty t ≡ nothing_stands (standing_in t)
empty_is done = refl
empty_is (leaf (leaves.Text text) place next) = by_white (list_all is_white text) (standing_in next)
  where
    by_white : (b : Bool) (more : List Standing) → false ≡ nothing_stands ((cond b blank other ∷ []) ++ more)
    by_white true more = refl
    by_white false more = refl
empty_is (leaf leaves.Comment place next) = empty_is next
empty_is (leaf (leaves.Expr text) place next) = refl
empty_is (leaf leaves.Hash place next) = refl
empty_is (leaf (leaves.Directive name attributes) place next) = empty_is next
empty_is (element opened body next) = refl

or_same : (a b c : Bool) → b ≡ c → (a || b) ≡ (a || c)
or_same a b c e = ap (λ d. a || d) e

pub other_is : (test : Tag → Bool) (t : Tree) → has_other test t ≡ other_stands test (standing_in t)
other_is test done = refl
other_is test (leaf (leaves.Text text) place next) = by_white (list_all is_white text) (has_other test next) (standing_in next) (other_is test next)
  where
    by_white : (b there : Bool) (more : List Standing) → there ≡ other_stands test more → (not b || there) ≡ other_stands test ((cond b blank other ∷ []) ++ more)
    by_white true there more e = e
    by_white false there more e = refl
other_is test (leaf leaves.Comment place next) = other_is test next
other_is test (leaf (leaves.Expr text) place next) = refl
other_is test (leaf leaves.Hash place next) = refl
other_is test (leaf (leaves.Directive name attributes) place next) = other_is test next
other_is test (element opened body next) = or_same (not (test opened.tag)) (has_other test next) (other_stands test (standing_in next)) (other_is test next)

pub element_is : (test : Tag → Bool) (t : Tree) → has_element test t ≡ element_stands test (standing_in t)
element_is test done = refl
element_is test (leaf (leaves.Text text) place next) = by_white (list_all is_white text) (has_element test next) (standing_in next) (element_is test next)
  where
    by_white : (b there : Bool) (more : List Standing) → there ≡ element_stands test more → there ≡ element_stands test ((cond b blank other ∷ []) ++ more)
    by_white true there more e = e
    by_white false there more e = e
element_is test (leaf leaves.Comment place next) = element_is test next
element_is test (leaf (leaves.Expr text) place next) = element_is test next
element_is test (leaf leaves.Hash place next) = element_is test next
element_is test (leaf (leaves.Directive name attributes) place next) = element_is test next
element_is test (element opened body next) = or_same (test opened.tag) (has_element test next) (element_stands test (standing_in next)) (element_is test next)

pub two_is : (test : Tag → Bool) (t : Tree) → has_two test t ≡ two_stand test (standing_in t)
two_is test done = refl
two_is test (leaf (leaves.Text text) place next) = by_white (list_all is_white text) (has_two test next) (standing_in next) (two_is test next)
  where
    by_white : (b there : Bool) (more : List Standing) → there ≡ two_stand test more → there ≡ two_stand test ((cond b blank other ∷ []) ++ more)
    by_white true there more e = e
    by_white false there more e = e
two_is test (leaf leaves.Comment place next) = two_is test next
two_is test (leaf (leaves.Expr text) place next) = two_is test next
two_is test (leaf leaves.Hash place next) = two_is test next
two_is test (leaf (leaves.Directive name attributes) place next) = two_is test next
two_is test (element opened body next) = by_test (test opened.tag) (element_is test next) (two_is test next)
  where
    by_test : (b : Bool) → has_element test next ≡ element_stands test (standing_in next) → has_two test next ≡ two_stand test (standing_in next)
        → cond b (has_element test next) (has_two test next) ≡ cond b (element_stands test (standing_in next)) (two_stand test (standing_in next))
    by_test true e g = e
    by_test false e g = g

pub part_names_are : (t : Tree) → part_names t ≡ part_names_in (standing_in t)
part_names_are done = refl
part_names_are (leaf (leaves.Text text) place next) = by_white (list_all is_white text) (part_names next) (standing_in next) (part_names_are next)
  where
    by_white : (b : Bool) (names : List (List ℕ)) (more : List Standing) → names ≡ part_names_in more → names ≡ part_names_in ((cond b blank other ∷ []) ++ more)
    by_white true names more e = e
    by_white false names more e = e
part_names_are (leaf leaves.Comment place next) = part_names_are next
part_names_are (leaf (leaves.Expr text) place next) = part_names_are next
part_names_are (leaf leaves.Hash place next) = part_names_are next
part_names_are (leaf (leaves.Directive name attributes) place next) = part_names_are next
part_names_are (element opened body next) = ap (λ names. part_name opened.tag ++ names) (part_names_are next)

not_zero : (n : ℕ) → (suc n == 0) ≡ false
not_zero n = grind (arith, nat_tests)

-- no thing stands there
pub none_stands : (things : List Made) → (length things == 0) ≡ nothing_stands (map standing_made things)
none_stands [] = refl
none_stands (thing ∷ things) = not_zero (length things)
