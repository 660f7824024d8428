-- Names that were seen before, and whether one of them stands again.
use Rattle.std.proofs.Common.{◌≡◌, ◌||◌, ◌+◌, ◌<◌, ◌∙◌, ℕ, not, Bool, true, false, cond, List, [], ◌∷◌, ◌++◌, length, take, drop, get_or, Bor, Ordering, refl, sym, ap, add-one, drop-cons}
use Rattle.std.specs.BTreeSet.{BTreeSet, IsEmpty, contains, Updates}
use Rattle.std.specs.BTreeMap.{is_at}
use Rattle.std.specs.Cmp.Lexicographic.{slice_cmp}
use Rattle.std.specs.Ordering.{nat_cmp}
use Rattle.std.specs.List.{list_any}
use Rattle.std.specs.Str.{bytes_eq}
use Rattle.std.proofs.Math.Seq.{take-suc}
use Rattle.std.proofs.lemmas.Bool.Decides.{same_from_decides, Decides-like}
use Rattle.std.proofs.lemmas.Map.Text.{is_eq-slice_cmp}
use Rattle.std.proofs.lemmas.Slice.Eq.{bytes_eq-Decides}
use Rattle.page_pieces.specs.declared.attribute.Attribute.{Attribute}
use Rattle.page_pieces.specs.Repeats.{has_name, has_repeat}

-- whether one of the others has the name of one of the first
abbrev pub any_in : List Attribute → List Attribute → Bool
any_in front [] = false
any_in front (a ∷ rest) = has_name a.name front || any_in front rest

-- whether a name of the others was there before, or stands twice among them
abbrev pub hits : List Attribute → List Attribute → Bool
hits front rest = any_in front rest || has_repeat rest

or_false : (x : Bool) → (x || false) ≡ x
or_false true = refl
or_false false = refl

or_assoc : (x y z : Bool) → (x || (y || z)) ≡ ((x || y) || z)
or_assoc true y z = refl
or_assoc false y z = refl

or_swap : (x y z w : Bool) → ((x || y) || (z || w)) ≡ ((x || z) || (y || w))
or_swap true y z w = refl
or_swap false true true w = refl
or_swap false true false w = refl
or_swap false false z w = refl

pub name_more : (name : List ℕ) (front : List Attribute) (a : Attribute) → has_name name (front ++ a ∷ []) ≡ (has_name name front || bytes_eq a.name name)
name_more name [] a = or_false (bytes_eq a.name name)
name_more name (b ∷ front) a = ap (λ x. bytes_eq b.name name || x) (name_more name front a) ∙ or_assoc (bytes_eq b.name name) (has_name name front) (bytes_eq a.name name)

same_test : (xs ys : List ℕ) → bytes_eq xs ys ≡ bytes_eq ys xs
same_test xs ys = same_from_decides (bytes_eq xs ys) (bytes_eq ys xs) (bytes_eq-Decides xs ys) (Decides-like (bytes_eq ys xs) sym sym (bytes_eq-Decides ys xs))

any_more : (front rest : List Attribute) (a : Attribute) → any_in (front ++ a ∷ []) rest ≡ (any_in front rest || has_name a.name rest)
any_more front [] a = refl
any_more front (b ∷ rest) a =
    (λ i. name_more b.name front a i || any_more front rest a i)
    ∙ or_swap (has_name b.name front) (bytes_eq a.name b.name) (any_in front rest) (has_name a.name rest)
    ∙ ap (λ x. (has_name b.name front || any_in front rest) || (x || has_name a.name rest)) (same_test a.name b.name)

-- a name that was there before
pub hits_found : (front rest : List Attribute) (a : Attribute) → has_name a.name front ≡ true → hits front (a ∷ rest) ≡ true
hits_found front rest a is = ap (λ x. (x || any_in front rest) || (has_name a.name rest || has_repeat rest)) is

-- a name that was not
pub hits_more : (front rest : List Attribute) (a : Attribute) → has_name a.name front ≡ false → hits front (a ∷ rest) ≡ hits (front ++ a ∷ []) rest
hits_more front rest a is =
    ap (λ x. (x || any_in front rest) || (has_name a.name rest || has_repeat rest)) is
    ∙ or_assoc (any_in front rest) (has_name a.name rest) (has_repeat rest)
    ∙ ap (λ x. x || has_repeat rest) (sym (any_more front rest a))

pub hits_all : (attributes : List Attribute) → hits [] attributes ≡ has_repeat attributes
hits_all attributes = ap (λ x. x || has_repeat attributes) (none attributes)
  where
    none : (rest : List Attribute) → any_in [] rest ≡ false
    none [] = refl
    none (a ∷ rest) = none rest

-- the order of texts in a set of them
abbrev pub text_order : Bor (List ℕ) → Bor (List ℕ) → Ordering
text_order x y = slice_cmp nat_cmp x.now y.now

-- the set has the names of these attributes
abbrev pub HasNames : BTreeSet (Bor (List ℕ)) → List Attribute → Type 0
HasNames seen front = (name : Bor (List ℕ)) → contains text_order seen name ≡ has_name name.now front

or_cond : (x y : Bool) → cond x true y ≡ (y || x)
or_cond true true = refl
or_cond true false = refl
or_cond false true = refl
or_cond false false = refl

-- and one more
pub names_more : (old new : BTreeSet (Bor (List ℕ))) (key : Bor (List ℕ)) (front : List Attribute) (a : Attribute) → key.now ≡ a.name → HasNames old front → Updates text_order old new key true → HasNames new (front ++ a ∷ [])
names_more old new key front a key_is has updates name =
    updates.0 name
    ∙ (λ i. cond ((is_eq-slice_cmp key.now name.now ∙ ap (λ n. bytes_eq n name.now) key_is) i) true (has name i))
    ∙ or_cond (bytes_eq a.name name.now) (has_name name.now front)
    ∙ sym (name_more name.now front a)

-- the attributes before and behind one of them
pub front_more : (attributes : List Attribute) (i : ℕ) (a : Attribute) → i < length attributes → a ≡ get_or attributes i a → take (i + 1) attributes ≡ take i attributes ++ a ∷ []
front_more attributes i a within is = ap (λ n. take n attributes) (add-one i) ∙ take-suc attributes i a within ∙ ap (λ x. take i attributes ++ x ∷ []) (sym is)

pub rest_more : (attributes : List Attribute) (i : ℕ) (a : Attribute) → i < length attributes → a ≡ get_or attributes i a → drop i attributes ≡ a ∷ drop (i + 1) attributes
rest_more attributes i a within is = drop-cons attributes i a within ∙ (λ j. sym is j ∷ drop (sym (add-one i) j) attributes)

-- no name was seen
pub names_none : (seen : BTreeSet (Bor (List ℕ))) → IsEmpty seen → HasNames seen []
names_none seen empty name = ap (list_any (is_at (text_order name))) empty

-- a name that came in as a new one was not there before
pub was_new : (seen : BTreeSet (Bor (List ℕ))) (key : Bor (List ℕ)) (front : List Attribute) (a : Attribute) (added : Bool) → key.now ≡ a.name → HasNames seen front → added ≡ not (contains text_order seen key) → added ≡ true
    → has_name a.name front ≡ false
was_new seen key front a added key_is has is new = go (contains text_order seen key) refl (sym is ∙ new)
  where
    go : (there : Bool) → contains text_order seen key ≡ there → not there ≡ true → has_name a.name front ≡ false
    go true there e = cc
    go false there e = ap (λ n. has_name n front) (sym key_is) ∙ sym (has key) ∙ there
