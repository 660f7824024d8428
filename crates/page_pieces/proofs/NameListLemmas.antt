-- Names in a set.
use Rattle.std.proofs.Common.{◌≡◌, ◌∙◌, ◌<◌, ◌+◌, ℕ, Bool, true, false, cond, List, [], ◌∷◌, ◌++◌, length, take, drop, get_or, add-one, drop-cons, refl, sym, ap, arith}
use Rattle.std.proofs.lemmas.Bool.{eqb-true}
use Rattle.std.proofs.lemmas.List.{append-nil, take-append-drop}
use Rattle.std.proofs.lemmas.List.Concat.{flat_map-append}
use Rattle.std.proofs.lemmas.Map.Text.{btree_set_updates_text}
use Rattle.std.specs.BTreeMap.{is_at}
use Rattle.std.specs.BTreeSet.{BTreeSet, IsEmpty, Updates}
use Rattle.std.specs.Cmp.Lexicographic.{slice_cmp}
use Rattle.std.specs.List.{list_any}
use Rattle.std.specs.Ordering.{nat_cmp}
use Rattle.std.specs.Prelude.{◌||◌, ◌==◌, String, string_bytes}
use Rattle.std.specs.Str.{bytes_eq}
use Rattle.std.specs.String.{string_cmp}
use Rattle.page_pieces.specs.ReadNames.{HasNames, names_in}
use Rattle.page_pieces.specs.Settings.{contains_text}

or_false : (x : Bool) → (x || false) ≡ x
or_false true = refl
or_false false = refl

or_assoc : (x y z : Bool) → (x || (y || z)) ≡ ((x || y) || z)
or_assoc true y z = refl
or_assoc false y z = refl

or_cond : (x y : Bool) → cond x true y ≡ (y || x)
or_cond true true = refl
or_cond true false = refl
or_cond false true = refl
or_cond false false = refl

abbrev among : List ℕ → List (List ℕ) → Bool
among name names = list_any (λ other. bytes_eq other name) names

-- a name is among these
pub among_is : (name : List ℕ) (names : List (List ℕ)) → list_any (λ other. bytes_eq other name) names ≡ contains_text name names
among_is name [] = refl
among_is name (first ∷ names) = ap (λ x. bytes_eq first name || x) (among_is name names)

-- or one more
among_more : (name : List ℕ) (names : List (List ℕ)) (more : List ℕ) → among name (names ++ more ∷ []) ≡ (among name names || bytes_eq more name)
among_more name [] more = or_false (bytes_eq more name)
among_more name (first ∷ names) more = ap (λ x. bytes_eq first name || x) (among_more name names more) ∙ or_assoc (bytes_eq first name) (among name names) (bytes_eq more name)

-- the set of no names
pub names_none : {A : Type 0} (known : BTreeSet (String A)) → IsEmpty known → HasNames known []
names_none known empty name = ap (list_any (is_at (λ k. slice_cmp nat_cmp name (string_bytes k)))) empty

-- and with one more
pub names_more : {A : Type 0} (old new : BTreeSet (String A)) (key : String A) (names : List (List ℕ)) (more : List ℕ) → string_bytes key ≡ more → Updates string_cmp old new key true → HasNames old names → HasNames new (names ++ more ∷ [])
names_more old new key names more is updates has name =
    btree_set_updates_text (string_bytes key) old new true updates name
    ∙ ((λ i. cond (bytes_eq (is i) name) true (has name i))
    ∙ (or_cond (bytes_eq more name) (among name names) ∙ sym (among_more name names more)))

-- a name is among these or those
pub contains_both : (name : List ℕ) (names more : List (List ℕ)) → contains_text name (names ++ more) ≡ (contains_text name names || contains_text name more)
contains_both name [] more = refl
contains_both name (first ∷ names) more =
    ap (λ x. bytes_eq first name || x) (contains_both name names more) ∙ or_assoc (bytes_eq first name) (contains_text name names) (contains_text name more)

-- the names of runs from one on: its own, and those of the runs behind it
pub contains_from : (name : List ℕ) (runs : List (List (List ℕ))) (i : ℕ) (run : List (List ℕ)) → i < length runs → run ≡ get_or runs i run
    → contains_text name (names_in (drop i runs)) ≡ (contains_text name run || contains_text name (names_in (drop (i + 1) runs)))
contains_from name runs i run lt is =
    ap (λ rs. contains_text name (names_in rs)) (drop-cons runs i run lt ∙ ap (λ n. get_or runs i run ∷ drop n runs) (sym (add-one i)) ∙ ap (λ r. r ∷ drop (i + 1) runs) (sym is))
    ∙ contains_both name run (names_in (drop (i + 1) runs))

-- the last of some runs in one
pub joined_last : (runs : List (List (List ℕ))) (kept : ℕ) → names_in (take kept runs ++ names_in (drop kept runs) ∷ []) ≡ names_in runs
joined_last runs kept =
    flat_map-append (λ run. run) (take kept runs) (names_in (drop kept runs) ∷ [])
    ∙ ap (λ more. names_in (take kept runs) ++ more) (append-nil (names_in (drop kept runs)))
    ∙ sym (flat_map-append (λ run. run) (take kept runs) (drop kept runs))
    ∙ ap names_in (take-append-drop kept runs)

-- a list of no length is empty
pub none_there : {A : Type 0} (xs : List A) → (length xs == 0) ≡ true → xs ≡ []
none_there [] none = refl
none_there (x ∷ xs) none = let short = eqb-true (length (x ∷ xs)) 0 none in absurd (omega arith)
