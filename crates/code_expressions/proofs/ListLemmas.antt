-- The codes of expressions, entries, links and parts, one after the other.
use Rattle.std.proofs.Common.{◌≡◌, ℕ, suc, ◌+◌, ◌<◌, ◌≤◌, List, [], ◌∷◌, ◌++◌, length, drop, get_or, map, refl, sym, ap, ◌∙◌, append_assoc}
use Rattle.std.proofs.lemmas.List.{append-nil, drop_all, drop_more}
use Rattle.el_reader.specs.El.{pair_of, tree_of}
use Rattle.el_reader.specs.Tree.{pairs_of, trees_of}
use Rattle.el_reader.specs.declared.chain.Link.{Link}
use Rattle.el_reader.specs.declared.el.El.{El}
use Rattle.code_expressions.specs.Chain.{link_form, links_form}
use Rattle.page_code.specs.Shapes.{up}
use Rattle.page_code.specs.declared.code.Cell.{Cell}
use Rattle.page_code.specs.declared.shape.Shape.{Shape}
use Rattle.code_forms.specs.Codes.{form_code}
use Rattle.code_lowering.specs.Expressions.{pair_count, pairs_form, tree_count, tree_form, trees_form}
use Rattle.pg_text.specs.declared.place.Place.{Place}

pub next_of : {R : Type 0} (all : List R) (i : ℕ) (x : R) → i < length all → x ≡ get_or all i x → drop i all ≡ x ∷ drop (i + 1) all
next_of all i x lt is = drop_more all i x lt ∙ ap (λ y. y ∷ drop (i + 1) all) (sym is)

-- the codes of expressions, of entries and of links
abbrev pub trees_code : Shape → Place → List El → List Cell
trees_code sh place items = form_code sh (trees_form place (trees_of (map tree_of items)))

abbrev pub pairs_code : Shape → Place → List (El × El) → List Cell
pairs_code sh place pairs = form_code sh (pairs_form place (pairs_of (map pair_of pairs)))

abbrev pub links_code : Shape → Place → List Link → List Cell
links_code sh place links = form_code sh (links_form place links)

pub tree_count_is : (items : List El) → tree_count (trees_of (map tree_of items)) ≡ length items
tree_count_is [] = refl
tree_count_is (item ∷ items) = ap suc (tree_count_is items)

pub pair_count_is : (pairs : List (El × El)) → pair_count (pairs_of (map pair_of pairs)) ≡ length pairs
pair_count_is [] = refl
pair_count_is (p ∷ pairs) = ap suc (pair_count_is pairs)

module _ (sh : Shape) (place : Place) (total : List Cell) where
  -- one link more
  pub links_from : (links : List Link) (i : ℕ) (l : Link) (code more : List Cell) → i < length links → l ≡ get_or links i l → more ≡ code ++ form_code sh (link_form place l)
      → code ++ links_code sh place (drop i links) ≡ total → more ++ links_code sh place (drop (i + 1) links) ≡ total
  links_from links i l code more lt is made whole =
      ap (λ c. c ++ links_code sh place (drop (i + 1) links)) made
      ∙ append_assoc code (form_code sh (link_form place l)) (links_code sh place (drop (i + 1) links))
      ∙ ap (λ rest. code ++ links_code sh place rest) (sym (next_of links i l lt is)) ∙ whole

  -- one expression more
  pub trees_from : (items : List El) (i : ℕ) (x : El) (code more : List Cell) (above : Shape) → i < length items → x ≡ get_or items i x → more ≡ code ++ form_code sh (tree_form place (tree_of x))
      → above ≡ up 1 sh → code ++ trees_code sh place (drop i items) ≡ total → more ++ trees_code above place (drop (i + 1) items) ≡ total
  trees_from items i x code more above lt is made stands whole =
      ap (λ s. more ++ trees_code s place (drop (i + 1) items)) stands
      ∙ ap (λ c. c ++ trees_code (up 1 sh) place (drop (i + 1) items)) made
      ∙ append_assoc code (form_code sh (tree_form place (tree_of x))) (trees_code (up 1 sh) place (drop (i + 1) items))
      ∙ ap (λ rest. code ++ trees_code sh place rest) (sym (next_of items i x lt is)) ∙ whole

  pub trees_end : (items : List El) (i : ℕ) (code : List Cell) → length items ≤ i → code ++ trees_code sh place (drop i items) ≡ total → code ≡ total
  trees_end items i code past whole = sym (append-nil code) ∙ ap (λ rest. code ++ trees_code sh place rest) (sym (drop_all i items past)) ∙ whole

  -- one entry more
  pub pairs_from : (pairs : List (El × El)) (i : ℕ) (p : El × El) (code first more : List Cell) (mid above : Shape) → i < length pairs → p ≡ get_or pairs i p
      → first ≡ code ++ form_code sh (tree_form place (tree_of p.0)) → mid ≡ up 1 sh → more ≡ first ++ form_code mid (tree_form place (tree_of p.1)) → above ≡ up 1 mid
      → code ++ pairs_code sh place (drop i pairs) ≡ total → more ++ pairs_code above place (drop (i + 1) pairs) ≡ total
  pairs_from pairs i p code first more mid above lt is one between two stands whole =
      ap (λ s. more ++ pairs_code s place rest) (stands ∙ ap (λ s. up 1 s) between)
      ∙ ap (λ c. c ++ others) (two ∙ ap (λ s. first ++ form_code s (tree_form place (tree_of p.1))) between ∙ ap (λ c. c ++ value) one)
      ∙ append_assoc (code ++ key) value others
      ∙ append_assoc code key (value ++ others)
      ∙ ap (λ left. code ++ pairs_code sh place left) (sym (next_of pairs i p lt is)) ∙ whole
    where
      rest : List (El × El)
      rest = drop (i + 1) pairs

      key : List Cell
      key = form_code sh (tree_form place (tree_of p.0))

      value : List Cell
      value = form_code (up 1 sh) (tree_form place (tree_of p.1))

      others : List Cell
      others = pairs_code (up 1 (up 1 sh)) place rest

  pub pairs_end : (pairs : List (El × El)) (i : ℕ) (code : List Cell) → length pairs ≤ i → code ++ pairs_code sh place (drop i pairs) ≡ total → code ≡ total
  pairs_end pairs i code past whole = sym (append-nil code) ∙ ap (λ rest. code ++ pairs_code sh place rest) (sym (drop_all i pairs past)) ∙ whole
