-- What is left of entries in order once the one under a key was taken out at its place.
use Rattle.std.proofs.Common.{◌≡◌, ℕ, List, [], ◌∷◌, map, Ok, Err, Less, Equal, Greater, refl, sym, ap, ◌∙◌, subst}
use Rattle.std.specs.declared.cmp.Ordering.{Ordering}
use Rattle.std.specs.List.{AllByRecursion, remove}
use Rattle.std.specs.List.Sorted.{IsStrictlySortedBy}
use Rattle.std.specs.Map.{keys_of}
use Rattle.std.specs.Ordering.{match_ordering}
use Rattle.std.proofs.lemmas.Cmp.{nat_list_cmp_total}
use Rattle.pg_text.specs.Names.{next_place}
use Rattle.pg_text.proofs.Halving.{by_order, order}
use Rattle.pg_text.proofs.NameOrder.{before_ok}
use Rattle.pg_value.specs.Attrs.{AreInOrder, place_of, without_entry}
use Rattle.pg_value.specs.Value.{entry_of}
use Rattle.pg_value.specs.declared.value.Value.{Value}
use Rattle.pg_value.proofs.Halving.{missing_at}
use Rattle.scopes.proofs.Weights.{kept, without_entry-missing}

abbrev Entry : Type 0
Entry = List ℕ × Value

removed_by : (o : Ordering) (key : List ℕ) (e : Entry) (es : List Entry) (i : ℕ) → order key e.0 ≡ o
    → AllByRecursion (λ m. order e.0 m ≡ Less) (keys_of (map entry_of es))
    → ((j : ℕ) → place_of key es ≡ Ok j → map entry_of (remove es j) ≡ without_entry (map entry_of es) key)
    → match_ordering o (Err 0) (Ok 0) (next_place (place_of key es)) ≡ Ok i → map entry_of (remove (e ∷ es) i) ≡ without_entry (map entry_of (e ∷ es)) key
removed_by Less key e es i is above later h = cc
removed_by Equal key e es i is above later h =
    let here : 0 ≡ i = cc in
    let rest = kept key e.0 (map entry_of es) (λ m g. nat_list_cmp_total.congr key e.0 m is ∙ g) above in
    subst (λ n. map entry_of (remove (e ∷ es) n) ≡ without_entry (map entry_of (e ∷ es)) key) here (rw (by_order Equal key e.0 is) (sym rest))
removed_by Greater key e es i is above later h =
    let before = before_ok (place_of key es) i h in
    let rest = later before.0 before.1 in
    subst (λ n. map entry_of (remove (e ∷ es) n) ≡ without_entry (map entry_of (e ∷ es)) key) before.2 (rw (by_order Greater key e.0 is) (ap (λ more. entry_of e ∷ more) rest))

-- without the entry at the place of the key there are the entries under other keys
pub removed_at : (key : List ℕ) (es : List Entry) (i : ℕ) → AreInOrder (map entry_of es) → place_of key es ≡ Ok i
    → map entry_of (remove es i) ≡ without_entry (map entry_of es) key
unfolding IsStrictlySortedBy
removed_at key [] i sorted h = cc
removed_at key (e ∷ es) i sorted h = removed_by (order key e.0) key e es i refl sorted.0 (λ j found. removed_at key es j sorted.1 found) h

-- where the key has no place they are all
pub none_removed : (key : List ℕ) (es : List Entry) (i : ℕ) → AreInOrder (map entry_of es) → place_of key es ≡ Err i
    → map entry_of es ≡ without_entry (map entry_of es) key
none_removed key es i sorted h = sym (without_entry-missing (map entry_of es) key (missing_at key es i sorted h))
