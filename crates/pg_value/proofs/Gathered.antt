-- Entries put in one after the other: in what order does not matter, as long as those of one key keep theirs.
use Rattle.std.proofs.Common.{◌≡◌, ℕ, List, [], ◌∷◌, ◌++◌, map, filter, reverse, not, ◌&&◌, Option, Some, None, Bool, true, false, Less, Equal, Greater, cond, refl, sym, ap, ◌∙◌, subst}
use Rattle.std.specs.declared.cmp.Ordering.{Ordering}
use Rattle.std.specs.Cmp.Lexicographic.{nat_list_cmp_total}
use Rattle.std.specs.List.{AllByRecursion}
use Rattle.std.specs.List.Sorted.{IsStrictlySortedBy, IsStableBy, ties}
use Rattle.std.specs.Map.{keys_of}
use Rattle.std.specs.Ordering.{is_lt, is_eq, ordering_reverse}
use Rattle.std.specs.Option.{unwrap_or}
use Rattle.std.specs.Str.{bytes_eq}
use Rattle.std.proofs.lemmas.List.{map-append}
use mathlib.Core.List.{reverse-cons}
use Rattle.std.proofs.lemmas.Slice.Eq.{bytes_eq-Decides}
use Rattle.pg_text.proofs.Halving.{by_order, order, turned}
use Rattle.pg_value.specs.Attrs.{AreInOrder, entry_at, with_entry, with_entries, of_entries}
use Rattle.pg_value.specs.Datum.{Datum}
use Rattle.pg_value.specs.Value.{datum_of, entry_of}
use Rattle.pg_value.specs.declared.value.Value.{Value}
use Rattle.pg_value.specs.declared.value.Value.TheVariants.{Null}
use Rattle.pg_value.proofs.Lookups.{equal_itself, entry_at-with_entry, entry_at-with_entry_other}
use Rattle.pg_value.proofs.Order.{AreInOrder-none, AreInOrder-with_entry}

abbrev pub Entries : Type 0
Entries = List (List ℕ × Datum)

-- the first of two that is there
abbrev pub either : Option Datum → Option Datum → Option Datum
either (Some d) other = Some d
either None other = other

either_none : (o : Option Datum) → either o None ≡ o
either_none (Some d) = refl
either_none None = refl

either_more : (a b c : Option Datum) → either (either a b) c ≡ either a (either b c)
either_more (Some d) b c = refl
either_more None b c = refl

-- the last entry of the key
abbrev pub last_at : List ℕ → Entries → Option Datum
last_at k [] = None
last_at k (e ∷ es) = either (last_at k es) (cond (bytes_eq k e.0) (Some e.1) None)

-- what stands under a key once one entry was put in
put_by : (b : Bool) (k l : List ℕ) (d : Datum) (done : Entries) → bytes_eq k l ≡ b → entry_at k (with_entry done l d) ≡ either (cond b (Some d) None) (entry_at k done)
put_by true k l d done h =
    let same : k ≡ l = (bytes_eq-Decides k l).0 h in
    ap (λ m. entry_at m (with_entry done l d)) same ∙ entry_at-with_entry done l d
put_by false k l d done h = entry_at-with_entry_other done k l d (λ same. let no : true ≡ false = sym ((bytes_eq-Decides k l).1 same) ∙ h in cc)

pub entry_at-with_entries : (k : List ℕ) (es done : Entries) → entry_at k (with_entries done es) ≡ either (last_at k es) (entry_at k done)
entry_at-with_entries k [] done = refl
entry_at-with_entries k (e ∷ es) done =
    entry_at-with_entries k es (with_entry done e.0 e.1)
    ∙ ap (either (last_at k es)) (put_by (bytes_eq k e.0) k e.0 e.1 done refl)
    ∙ sym (either_more (last_at k es) (cond (bytes_eq k e.0) (Some e.1) None) (entry_at k done))

pub AreInOrder-with_entries : (es done : Entries) → AreInOrder done → AreInOrder (with_entries done es)
AreInOrder-with_entries [] done h = h
AreInOrder-with_entries (e ∷ es) done h = AreInOrder-with_entries es (with_entry done e.0 e.1) (AreInOrder-with_entry done e.0 e.1 h)

pub AreInOrder-of_entries : (es : Entries) → AreInOrder (of_entries es)
AreInOrder-of_entries es = AreInOrder-with_entries es [] AreInOrder-none

-- the ties of a key are its entries
untied : (o : Ordering) → not (is_lt o) && not (is_lt (ordering_reverse o)) ≡ is_eq o
untied Less = refl
untied Equal = refl
untied Greater = refl

-- what ties with a key is what has it
pub ties_by : (o : Ordering) (k l : List ℕ) → order k l ≡ o → not (is_lt (order k l)) && not (is_lt (order l k)) ≡ bytes_eq k l
ties_by o k l h =
    ap (λ p. not (is_lt p) && not (is_lt (order l k))) h
    ∙ ap (λ p. not (is_lt o) && not (is_lt p)) (turned k l o h)
    ∙ untied o
    ∙ sym (by_order o k l h)

kept_by : (b : Bool) (k : List ℕ) (e : List ℕ × Value) (es kept : List (List ℕ × Value)) → bytes_eq k e.0 ≡ b → last_at k (map entry_of kept) ≡ last_at k (map entry_of es)
    → last_at k (map entry_of (cond b (e ∷ kept) kept)) ≡ last_at k (map entry_of (e ∷ es))
kept_by true k e es kept h later = ap (λ o. either o (cond (bytes_eq k e.0) (Some (datum_of e.1)) None)) later
kept_by false k e es kept h later = later ∙ sym (either_none (last_at k (map entry_of es))) ∙ ap (λ b. either (last_at k (map entry_of es)) (cond b (Some (datum_of e.1)) None)) (sym h)

last_kept : (k : List ℕ) (p : List ℕ × Value → Bool) → ((e : List ℕ × Value) → p e ≡ bytes_eq k e.0) → (es : List (List ℕ × Value)) → last_at k (map entry_of (filter p es)) ≡ last_at k (map entry_of es)
last_kept k p h [] = refl
last_kept k p h (e ∷ es) = kept_by (p e) k e es (filter p es) (sym (h e)) (last_kept k p h es)

-- an entry of a lower key isn't there
below_all : (k l : List ℕ) (es : Entries) → order k l ≡ Less → AllByRecursion (λ m. order l m ≡ Less) (keys_of es) → entry_at k es ≡ None
below_all k l [] h all = refl
below_all k l (e ∷ es) h all = rw (by_order Less k e.0 (nat_list_cmp_total.trans k l e.0 h all.0)) (below_all k l es h all.1)

above_all : (k : List ℕ) (es : Entries) → AllByRecursion (λ m. order k m ≡ Less) (keys_of es) → entry_at k es ≡ None
above_all k [] all = refl
above_all k (e ∷ es) all = rw (by_order Less k e.0 all.0) (above_all k es all.1)

here : (e : List ℕ × Datum) (es : Entries) → entry_at e.0 (e ∷ es) ≡ Some e.1
here e es = rw (equal_itself e.0) refl

first_missing : (e f : List ℕ × Datum) (fs : Entries) → order e.0 f.0 ≡ Less → AllByRecursion (λ m. order f.0 m ≡ Less) (keys_of fs) → entry_at e.0 (f ∷ fs) ≡ None
first_missing e f fs h all = rw (by_order Less e.0 f.0 h) (below_all e.0 f.0 fs h all)

some_none : (d : Datum) → Some d ≡ None → ⊥
some_none d h = cc

rest_by : (b : Bool) (k : List ℕ) (e : List ℕ × Datum) (es fs : Entries) → bytes_eq k e.0 ≡ b
    → AllByRecursion (λ m. order e.0 m ≡ Less) (keys_of es) → AllByRecursion (λ m. order e.0 m ≡ Less) (keys_of fs)
    → entry_at k (e ∷ es) ≡ entry_at k (e ∷ fs) → entry_at k es ≡ entry_at k fs
rest_by true k e es fs is above over h =
    let same : e.0 ≡ k = sym ((bytes_eq-Decides k e.0).0 is) in
    subst (λ m. entry_at m es ≡ entry_at m fs) same (above_all e.0 es above ∙ sym (above_all e.0 fs over))
rest_by false k e es fs is above over h = sym (ap (λ b. cond b (Some e.1) (entry_at k es)) is) ∙ h ∙ ap (λ b. cond b (Some e.1) (entry_at k fs)) is

one_entry : (e f : List ℕ × Datum) → e.0 ≡ f.0 → e.1 ≡ f.1 → e ≡ f
one_entry e f key value = ap (λ k. (k, e.1)) key ∙ ap (λ d. (f.0, d)) value

same_by : (o : Ordering) (e f : List ℕ × Datum) (es fs : Entries) → order e.0 f.0 ≡ o
    → AllByRecursion (λ m. order e.0 m ≡ Less) (keys_of es) → AllByRecursion (λ m. order f.0 m ≡ Less) (keys_of fs)
    → (((k : List ℕ) → entry_at k es ≡ entry_at k fs) → es ≡ fs) → ((k : List ℕ) → entry_at k (e ∷ es) ≡ entry_at k (f ∷ fs)) → e ∷ es ≡ f ∷ fs
same_by Less e f es fs is above over later h = absurd (some_none e.1 (sym (here e es) ∙ h e.0 ∙ first_missing e f fs is over))
same_by Greater e f es fs is above over later h = absurd (some_none f.1 (sym (here f fs) ∙ sym (h f.0) ∙ first_missing f e es (turned e.0 f.0 Greater is) above))
same_by Equal e f es fs is above over later h =
    let key : e.0 ≡ f.0 = (bytes_eq-Decides e.0 f.0).0 (by_order Equal e.0 f.0 is) in
    let value : Some e.1 ≡ Some f.1 = sym (here e es) ∙ h e.0 ∙ ap (λ k. entry_at k (f ∷ fs)) key ∙ here f fs in
    let one = one_entry e f key (ap (λ o. unwrap_or o e.1) value) in
    let rest : (k : List ℕ) → entry_at k es ≡ entry_at k fs = λ k. rest_by (bytes_eq k e.0) k e es fs refl above (subst (λ g. AllByRecursion (λ m. order g m ≡ Less) (keys_of fs)) (sym key) over) (h k ∙ ap (λ g. entry_at k (g ∷ fs)) (sym one)) in
    ap (λ g. g ∷ es) one ∙ ap (λ gs. f ∷ gs) (later rest)

-- entries in order are the same where the same stands under each key
pub same_entries : (es fs : Entries) → AreInOrder es → AreInOrder fs → ((k : List ℕ) → entry_at k es ≡ entry_at k fs) → es ≡ fs
unfolding IsStrictlySortedBy
same_entries [] [] s t h = refl
same_entries [] (f ∷ fs) s t h = absurd (some_none f.1 (sym (here f fs) ∙ sym (h f.0)))
same_entries (e ∷ es) [] s t h = absurd (some_none e.1 (sym (here e es) ∙ h e.0))
same_entries (e ∷ es) (f ∷ fs) s t h = same_by (order e.0 f.0) e f es fs refl s.0 t.0 (λ one. same_entries es fs s.1 t.1 one) h

-- sorting that keeps the order of the entries of one key changes nothing
pub of_entries-stable : (xs ys : List (List ℕ × Value)) → IsStableBy (λ a b. is_lt (order a.0 b.0)) xs ys → of_entries (map entry_of ys) ≡ of_entries (map entry_of xs)
of_entries-stable xs ys stable =
    let test = λ (k : List ℕ) (e : List ℕ × Value). ties (λ (a : List ℕ × Value) (b : List ℕ × Value). is_lt (order a.0 b.0)) (k, Null) e in
    let entries_of_key : (k : List ℕ) (e : List ℕ × Value) → test k e ≡ bytes_eq k e.0 = λ k e. ties_by (order k e.0) k e.0 refl in
    let last = λ (k : List ℕ). sym (last_kept k (test k) (entries_of_key k) ys) ∙ ap (λ es. last_at k (map entry_of es)) (stable (k, Null)) ∙ last_kept k (test k) (entries_of_key k) xs in
    same_entries _ _ (AreInOrder-of_entries (map entry_of ys)) (AreInOrder-of_entries (map entry_of xs))
    (λ k. entry_at-with_entries k (map entry_of ys) [] ∙ ap (λ o. either o None) (last k) ∙ sym (entry_at-with_entries k (map entry_of xs) []))

abbrev Kept : Type 0
Kept = List (List ℕ × Value)

pub first_gathered : (es made rest : Kept) → made ≡ [] → rest ≡ es
    → AreInOrder (map entry_of made) × (with_entries (map entry_of made) (map entry_of rest) ≡ of_entries (map entry_of es))
first_gathered es made rest none all = (
  subst (λ m. AreInOrder (map entry_of m)) (sym none) AreInOrder-none,
  ap (λ m. with_entries (map entry_of m) (map entry_of rest)) none ∙ ap (λ r. of_entries (map entry_of r)) all,
)

pub more_gathered : (made new old left : Kept) (e : List ℕ × Value) (all : Entries) → old ≡ e ∷ left → map entry_of new ≡ with_entry (map entry_of made) e.0 (datum_of e.1)
    → AreInOrder (map entry_of made) → with_entries (map entry_of made) (map entry_of old) ≡ all
    → AreInOrder (map entry_of new) × (with_entries (map entry_of new) (map entry_of left) ≡ all)
more_gathered made new old left e all next put order so_far = (
  subst AreInOrder (sym put) (AreInOrder-with_entry (map entry_of made) e.0 (datum_of e.1) order),
  ap (λ es. with_entries es (map entry_of left)) put ∙ sym (ap (λ es. with_entries (map entry_of made) (map entry_of es)) next) ∙ so_far,
)

-- the entries of a list turned round
pub entries-reverse : (es : Kept) → map entry_of (reverse es) ≡ reverse (map entry_of es)
entries-reverse [] = refl
entries-reverse (e ∷ es) =
    ap (map entry_of) (reverse-cons e es)
    ∙ map-append entry_of (reverse es) (e ∷ [])
    ∙ ap (λ more. more ++ entry_of e ∷ []) (entries-reverse es)
    ∙ sym (reverse-cons (entry_of e) (map entry_of es))
