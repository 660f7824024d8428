-- Files that each stand behind the one before are in order.
use Rattle.std.proofs.Common.{◌≡◌, ℕ, ◌+◌, ◌-◌, ◌<◌, ◌≤◌, List, length, get_or, arith, inl, inr, refl, ap, sym, subst, ◌∙◌, true, false}
use Rattle.std.specs.declared.cmp.Ordering.{Ordering}
use Rattle.std.specs.declared.cmp.Ordering.TheVariants.{Less, Equal, Greater}
use Rattle.std.specs.Ordering.{is_lt}
use Rattle.std.proofs.lemmas.Bool.{cases_lt}
use Rattle.std.proofs.lemmas.Cmp.{nat_list_cmp_total}
use Rattle.std.proofs.lemmas.List.{get_or_read}
use Rattle.pg_text.specs.Order.{path_cmp}
use Rattle.source_tree.specs.declared.file.File.{File}
use Rattle.source_tree.specs.Order.{IsInOrder, path_of}

-- the files before this index are in order
abbrev pub RiseUpTo : ℕ → List File → Type 0
RiseUpTo n files = (i j : ℕ) (d : File) → i < j → j < n → path_cmp (path_of (get_or files i d)) (path_of (get_or files j d)) ≡ Less

is_less : (o : Ordering) → is_lt o ≡ true → o ≡ Less
is_less Less is = refl
is_less Equal is = cc
is_less Greater is = cc

-- files are not in order where one doesn't stand behind the one before
pub out_of_order : (files : List File) (n : ℕ) (before next : File) → before ≡ get_or files (n - 1) before → next ≡ get_or files n next → 0 < n → n < length files
    → is_lt (path_cmp before.path next.path) ≡ false → IsInOrder files → ⊥
out_of_order files n before next is_before is_next some within out order =
    let below : path_cmp (path_of (get_or files (n - 1) next)) (path_of (get_or files n next)) ≡ Less = order (n - 1) n next (omega arith) within in
    let first : before ≡ get_or files (n - 1) next = get_or_read files (n - 1) before (omega arith) is_before next in
    let same : path_cmp before.path next.path ≡ Less = ap (λ (f : File). path_cmp f.path next.path) first ∙ (ap (λ (f : File). path_cmp (get_or files (n - 1) next).path f.path) is_next ∙ below) in
    let both : true ≡ false = sym (ap is_lt same) ∙ out in cc

-- one file more is in order where it stands behind the one before
pub rise_more : (files : List File) (n : ℕ) (before next : File) → before ≡ get_or files (n - 1) before → next ≡ get_or files n next → 0 < n → n < length files
    → is_lt (path_cmp before.path next.path) ≡ true → RiseUpTo n files → RiseUpTo (n + 1) files
rise_more files n before next is_before is_next some within below rise i j d first second = elim (cases_lt j n) [ inl earlier ↦ rise i j d first earlier | inr here ↦ behind here ]
  where
    last : path_cmp (path_of (get_or files (n - 1) d)) (path_of (get_or files n d)) ≡ Less
    last =
        subst (λ (f : File). path_cmp (path_of f) (path_of (get_or files n d)) ≡ Less) (get_or_read files (n - 1) before (omega arith) is_before d)
        (subst (λ (f : File). path_cmp before.path (path_of f) ≡ Less) (get_or_read files n next within is_next d) (is_less _ below))

    to_last : path_cmp (path_of (get_or files i d)) (path_of (get_or files n d)) ≡ Less
    to_last = elim (cases_lt i (n - 1)) [
      | inl lower ↦ nat_list_cmp_total.trans (path_of (get_or files i d)) (path_of (get_or files (n - 1) d)) (path_of (get_or files n d)) (rise i (n - 1) d lower (omega arith)) last
      | inr same ↦ let at : i ≡ n - 1 = omega arith in subst (λ k. path_cmp (path_of (get_or files k d)) (path_of (get_or files n d)) ≡ Less) (sym at) last
    ]

    behind : n ≤ j → path_cmp (path_of (get_or files i d)) (path_of (get_or files j d)) ≡ Less
    behind here = let at : j ≡ n = omega arith in subst (λ k. path_cmp (path_of (get_or files i d)) (path_of (get_or files k d)) ≡ Less) (sym at) to_last
