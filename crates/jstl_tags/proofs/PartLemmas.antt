-- The names that `jsp:attribute` gives, one more each.
use Rattle.std.proofs.Common.{◌≡◌, ◌∙◌, ◌<◌, ℕ, ◌+◌, Bool, true, false, List, [], ◌∷◌, ◌++◌, append_assoc, length, take, get_or, refl, sym, ap}
use Rattle.std.specs.Prelude.{◌||◌, map}
use Rattle.std.specs.Str.{bytes_eq}
use Rattle.std.proofs.lemmas.Bool.Decides.{same_from_decides, Decides-like}
use Rattle.std.proofs.lemmas.List.{take_more}
use Rattle.std.proofs.lemmas.Slice.Eq.{bytes_eq-Decides}
use Rattle.page_pieces.specs.Settings.{contains_text}
use Rattle.jstl_tags.specs.declared.standing.Standing.{Standing as Made}
use Rattle.jstl_tags.specs.declared.standing.Standing.TheVariants as made
use Rattle.jstl_tags.specs.Check.{repeats}
use Rattle.jstl_tags.specs.Content.{part_name}
use Rattle.jstl_tags.specs.ReadParts.{part_names_of}
use Rattle.jstl_tags.specs.Standing.{part_names_in, standing_made}

-- they are the names of what stands there
pub names_are : (things : List Made) → part_names_of things ≡ part_names_in (map standing_made things)
names_are [] = refl
names_are (made.Blank ∷ things) = names_are things
names_are (made.Other ∷ things) = names_are things
names_are (made.Element prefix name attributes ∷ things) = ap (λ more. part_name (record { prefix = prefix.now; name = name.now; attributes = attributes.now }) ++ more) (names_are things)

joined : (xs ys : List Made) → part_names_of (xs ++ ys) ≡ part_names_of xs ++ part_names_of ys
joined [] ys = refl
joined (made.Blank ∷ xs) ys = joined xs ys
joined (made.Other ∷ xs) ys = joined xs ys
joined (made.Element prefix name attributes ∷ xs) ys =
    let here = part_name (record { prefix = prefix.now; name = name.now; attributes = attributes.now }) in
    ap (λ more. here ++ more) (joined xs ys) ∙ sym (append_assoc here (part_names_of xs) (part_names_of ys))

-- one thing more
pub names_more : (xs : List Made) (i : ℕ) (x : Made) → i < length xs → x ≡ get_or xs i x
    → part_names_of (take i xs) ++ part_names_of (x ∷ []) ≡ part_names_of (take (i + 1) xs)
names_more xs i x within is =
    sym (joined (take i xs) (x ∷ [])) ∙ ap part_names_of (ap (λ y. take i xs ++ y ∷ []) is ∙ sym (take_more xs i x within))

same_test : (xs ys : List ℕ) → bytes_eq xs ys ≡ bytes_eq ys xs
same_test xs ys = same_from_decides (bytes_eq xs ys) (bytes_eq ys xs) (bytes_eq-Decides xs ys) (Decides-like (bytes_eq ys xs) sym sym (bytes_eq-Decides ys xs))

or_false : (x : Bool) → (x || false) ≡ x
or_false true = refl
or_false false = refl

or_assoc : (x y z : Bool) → (x || (y || z)) ≡ ((x || y) || z)
or_assoc true y z = refl
or_assoc false y z = refl

contains_more : (name : List ℕ) (names : List (List ℕ)) (more : List ℕ) → contains_text name (names ++ more ∷ []) ≡ (contains_text name names || bytes_eq name more)
contains_more name [] more = or_false (bytes_eq more name) ∙ same_test more name
contains_more name (first ∷ names) more =
    ap (λ x. bytes_eq first name || x) (contains_more name names more) ∙ or_assoc (bytes_eq first name) (contains_text name names) (bytes_eq name more)

-- behind a name, whether it was there, and whether one was there twice
swapped : (here more twice again : Bool) → ((here || more) || (twice || again)) ≡ ((here || twice) || (more || again))
swapped true more twice again = refl
swapped false true true again = refl
swapped false true false again = refl
swapped false false twice again = refl

-- a name is given twice with one more where one is without it, or where that one is given
pub repeats_more : (names : List (List ℕ)) (more : List ℕ) → repeats (names ++ more ∷ []) ≡ (repeats names || contains_text more names)
repeats_more [] more = refl
repeats_more (name ∷ names) more =
    ap (λ x. x || repeats (names ++ more ∷ [])) (contains_more name names more)
    ∙ (ap (λ x. (contains_text name names || bytes_eq name more) || x) (repeats_more names more)
    ∙ swapped (contains_text name names) (bytes_eq name more) (repeats names) (contains_text more names))
