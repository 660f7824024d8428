-- The records of an included page's parameters: its own put into those of the page that includes it.
use Rattle.std.proofs.Common.{◌≡◌, ◌≢◌, ◌≤◌, ℕ, arith, List, [], ◌∷◌, ◌++◌, get_or, length, map, reverse, take, Option, Some, None, Result, Ok, Err, OnOk, OnErr, Bool, true, false, Less, cond, refl, sym, ap, ◌∙◌, subst}
use Rattle.std.specs.List.{AllByRecursion}
use Rattle.std.specs.List.Sorted.{IsStrictlySortedBy}
use Rattle.std.specs.Map.{keys_of}
use Rattle.std.specs.Str.{bytes_eq}
use Rattle.std.specs.Ordering.{match_ordering}
use Rattle.std.proofs.lemmas.Cmp.{nat_list_cmp_total, tied_itself}
use Rattle.std.proofs.lemmas.List.{map-append, take_all}
use Rattle.std.proofs.lemmas.Slice.Eq.{bytes_eq-Decides}
use mathlib.Core.List.{reverse-cons}
use Rattle.http_in.specs.declared.params.Param.{Param}
use Rattle.page_meaning.specs.Request.{all_values, first_values, items_under, param_entry}
use Rattle.run_parts.specs.Records.{list_before}
use Rattle.pg_text.proofs.Halving.{by_order, order}
use Rattle.pg_value.proofs.Gathered.{AreInOrder-of_entries, Entries, same_entries}
use Rattle.pg_value.proofs.Inverses.{item_list-items_of, items_of-item_list}
use Rattle.pg_value.proofs.Lookups.{entry_at-with_entry, entry_at-with_entry_other}
use Rattle.pg_value.proofs.Order.{AreInOrder-none, AreInOrder-with_entry}
use Rattle.pg_value.specs.Attrs.{AreInOrder, entry_at, with_entries, with_entry}
use Rattle.pg_value.specs.Datum.{Datum, list, item, items_of, item_list, text}
use Rattle.pg_value.specs.Value.{datum_of, entry_of}
use Rattle.pg_value.specs.declared.value.Value.{Value}

-- how an own value and an outer one of its name make one
abbrev Over : Type 0
Over = Datum → Option Datum → Datum

-- the own value alone
abbrev pub first_of : Over
first_of own outer = own

-- entries with own ones put in, each over what stands under its key
abbrev pub with_own : Over → Entries → Entries → Entries
with_own over es [] = es
with_own over es (e ∷ own) = with_own over (with_entry es e.0 (over e.1 (entry_at e.0 es))) own

-- what stands under a key then
abbrev both : Over → Option Datum → Option Datum → Option Datum
both over None outer = outer
both over (Some own) outer = Some (over own outer)

other_key : (k l : List ℕ) → bytes_eq k l ≡ false → k ≢ l
other_key k l is = λ same. let no : true ≡ false = sym ((bytes_eq-Decides k l).1 same) ∙ is in cc

-- a key below all others isn't there
above_all : (k : List ℕ) (es : Entries) → AllByRecursion (λ m. order k m ≡ Less) (keys_of es) → entry_at k es ≡ None
above_all k [] all = refl
above_all k (e ∷ es) all = rw (by_order Less k e.0 all.0) (above_all k es all.1)

-- under a key that is put in first, and under another
own_by : (b : Bool) (over : Over) (k : List ℕ) (e : List ℕ × Datum) (own es : Entries) → bytes_eq k e.0 ≡ b → AllByRecursion (λ m. order e.0 m ≡ Less) (keys_of own)
    → both over (entry_at k own) (entry_at k (with_entry es e.0 (over e.1 (entry_at e.0 es)))) ≡ both over (cond b (Some e.1) (entry_at k own)) (entry_at k es)
own_by true over k e own es is above =
    let same : k ≡ e.0 = (bytes_eq-Decides k e.0).0 is in
    ap (λ m. both over (entry_at m own) (entry_at m (with_entry es e.0 (over e.1 (entry_at e.0 es))))) same
    ∙ ap (λ o. both over o (entry_at e.0 (with_entry es e.0 (over e.1 (entry_at e.0 es))))) (above_all e.0 own above)
    ∙ entry_at-with_entry es e.0 (over e.1 (entry_at e.0 es))
    ∙ ap (λ m. Some (over e.1 (entry_at m es))) (sym same)
own_by false over k e own es is above = ap (both over (entry_at k own)) (entry_at-with_entry_other es k e.0 (over e.1 (entry_at e.0 es)) (other_key k e.0 is))

entry_at-with_own : (over : Over) (k : List ℕ) (own es : Entries) → AreInOrder own → entry_at k (with_own over es own) ≡ both over (entry_at k own) (entry_at k es)
unfolding IsStrictlySortedBy
entry_at-with_own over k [] es h = refl
entry_at-with_own over k (e ∷ own) es h =
    entry_at-with_own over k own (with_entry es e.0 (over e.1 (entry_at e.0 es))) h.1 ∙ own_by (bytes_eq k e.0) over k e own es refl h.0

AreInOrder-with_own : (over : Over) (own es : Entries) → AreInOrder es → AreInOrder (with_own over es own)
AreInOrder-with_own over [] es h = h
AreInOrder-with_own over (e ∷ own) es h = AreInOrder-with_own over own _ (AreInOrder-with_entry es e.0 (over e.1 (entry_at e.0 es)) h)

-- the first values of parameters are those of all but the first, with its own put in
with_entries-append : (more es : Entries) (e : List ℕ × Datum) → with_entries es (more ++ e ∷ []) ≡ with_entry (with_entries es more) e.0 e.1
with_entries-append [] es e = refl
with_entries-append (f ∷ more) es e = with_entries-append more (with_entry es f.0 f.1) e

first_values-cons : (p : Param) (ps : List Param) → first_values (p ∷ ps) ≡ with_entry (first_values ps) p.name (text p.value)
first_values-cons p ps = ap (with_entries []) (reverse-cons (param_entry p) (map param_entry ps)) ∙ with_entries-append (reverse (map param_entry ps)) [] (param_entry p)

AreInOrder-first_values : (ps : List Param) → AreInOrder (first_values ps)
AreInOrder-first_values ps = AreInOrder-of_entries (reverse (map param_entry ps))

AreInOrder-all_values : (ps : List Param) → AreInOrder (all_values ps)
AreInOrder-all_values [] = AreInOrder-none
AreInOrder-all_values (p ∷ ps) = AreInOrder-with_entry (all_values ps) p.name (list (item (text p.value) (items_under (entry_at p.name (all_values ps))))) (AreInOrder-all_values ps)

-- under a key of own parameters and of those behind them
first_by : (b : Bool) (k n : List ℕ) (d : Datum) (all own : Entries) (outer : Option Datum) → bytes_eq k n ≡ b → entry_at k all ≡ both first_of (entry_at k own) outer
    → entry_at k (with_entry all n d) ≡ both first_of (entry_at k (with_entry own n d)) outer
first_by true k n d all own outer is later =
    let same : k ≡ n = (bytes_eq-Decides k n).0 is in
    subst (λ m. entry_at m (with_entry all n d) ≡ both first_of (entry_at m (with_entry own n d)) outer) (sym same)
    (entry_at-with_entry all n d ∙ sym (ap (λ o. both first_of o outer) (entry_at-with_entry own n d)))
first_by false k n d all own outer is later =
    entry_at-with_entry_other all k n d (other_key k n is) ∙ later ∙ sym (ap (λ o. both first_of o outer) (entry_at-with_entry_other own k n d (other_key k n is)))

entry_at-first_values : (k : List ℕ) (own rest : List Param) → entry_at k (first_values (own ++ rest)) ≡ both first_of (entry_at k (first_values own)) (entry_at k (first_values rest))
entry_at-first_values k [] rest = refl
entry_at-first_values k (p ∷ own) rest =
    ap (entry_at k) (first_values-cons p (own ++ rest))
    ∙ first_by (bytes_eq k p.name) k p.name (text p.value) (first_values (own ++ rest)) (first_values own) (entry_at k (first_values rest)) refl (entry_at-first_values k own rest)
    ∙ sym (ap (λ es. both first_of (entry_at k es) (entry_at k (first_values rest))) (first_values-cons p own))

-- the first value of each name: own ones, put into those behind them
pub own_first_values : (own rest : List Param) → with_own first_of (first_values rest) (first_values own) ≡ first_values (own ++ rest)
own_first_values own rest =
    same_entries _ _ (AreInOrder-with_own first_of (first_values own) (first_values rest) (AreInOrder-first_values rest)) (AreInOrder-first_values (own ++ rest))
    (λ k. entry_at-with_own first_of k (first_values own) (first_values rest) (AreInOrder-first_values own) ∙ sym (entry_at-first_values k own rest))

-- a value in front of a list, and of the list of own values
abbrev with_first : Datum → Option Datum → Datum
with_first d o = list (item d (items_under o))

first_before : (d : Datum) (own outer : Option Datum) → with_first d (both list_before own outer) ≡ list_before (with_first d own) outer
first_before d None outer = ap (λ is. list (item d is)) (sym (items_of-item_list (items_under outer)))
first_before d (Some x) outer = refl

all_by : (b : Bool) (k n : List ℕ) (d : Datum) (all own outer : Entries) → bytes_eq k n ≡ b → ((l : List ℕ) → entry_at l all ≡ both list_before (entry_at l own) (entry_at l outer))
    → entry_at k (with_entry all n (with_first d (entry_at n all))) ≡ both list_before (entry_at k (with_entry own n (with_first d (entry_at n own)))) (entry_at k outer)
all_by true k n d all own outer is later =
    let same : k ≡ n = (bytes_eq-Decides k n).0 is in
    subst (λ m. entry_at m (with_entry all n (with_first d (entry_at n all))) ≡ both list_before (entry_at m (with_entry own n (with_first d (entry_at n own)))) (entry_at m outer)) (sym same)
    (entry_at-with_entry all n (with_first d (entry_at n all))
    ∙ ap (λ o. Some (with_first d o)) (later n)
    ∙ ap Some (first_before d (entry_at n own) (entry_at n outer))
    ∙ sym (ap (λ o. both list_before o (entry_at n outer)) (entry_at-with_entry own n (with_first d (entry_at n own)))))
all_by false k n d all own outer is later =
    entry_at-with_entry_other all k n (with_first d (entry_at n all)) (other_key k n is)
    ∙ later k
    ∙ sym (ap (λ o. both list_before o (entry_at k outer)) (entry_at-with_entry_other own k n (with_first d (entry_at n own)) (other_key k n is)))

entry_at-all_values : (k : List ℕ) (own rest : List Param) → entry_at k (all_values (own ++ rest)) ≡ both list_before (entry_at k (all_values own)) (entry_at k (all_values rest))
entry_at-all_values k [] rest = refl
entry_at-all_values k (p ∷ own) rest =
    all_by (bytes_eq k p.name) k p.name (text p.value) (all_values (own ++ rest)) (all_values own) (all_values rest) refl (λ l. entry_at-all_values l own rest)

-- the list of the values of each name: own ones, put in front of those behind them
pub own_all_values : (own rest : List Param) → with_own list_before (all_values rest) (all_values own) ≡ all_values (own ++ rest)
own_all_values own rest =
    same_entries _ _ (AreInOrder-with_own list_before (all_values own) (all_values rest) (AreInOrder-all_values rest)) (AreInOrder-all_values (own ++ rest))
    (λ k. entry_at-with_own list_before k (all_values own) (all_values rest) (AreInOrder-all_values own) ∙ sym (entry_at-all_values k own rest))

-- one turn of putting own entries in
pub one_put : (over : Over) (made new all : Entries) (old left : List (List ℕ × Value)) (e : List ℕ × Value) (d : Datum) → old ≡ e ∷ left → new ≡ with_entry made e.0 d → d ≡ over (datum_of e.1) (entry_at e.0 made)
    → with_own over made (map entry_of old) ≡ all → with_own over new (map entry_of left) ≡ all
one_put over made new all old left e d next put is so_far =
    ap (λ es. with_own over es (map entry_of left)) (put ∙ ap (with_entry made e.0) is) ∙ sym (ap (λ es. with_own over made (map entry_of es)) next) ∙ so_far

-- where none is left, all are put in
pub all_put : (over : Over) (made all : Entries) (left : List (List ℕ × Value)) → length left ≡ 0 → with_own over made (map entry_of left) ≡ all → made ≡ all
all_put over made all [] none so_far = so_far
all_put over made all (e ∷ left) none so_far = absurd (omega (arith, none))

-- the items of a list behind others
pub items_added : (items old more : List Value) (n : ℕ) (ds : List Datum) (under : Option Datum) → items ≡ old ++ take n more → length more ≤ n → map datum_of more ≡ ds
    → under ≡ Some (list (items_of ds)) → map datum_of items ≡ map datum_of old ++ item_list (items_under under)
items_added items old more n ds under is end same there =
    ap (map datum_of) (is ∙ ap (λ xs. old ++ xs) (take_all n more end))
    ∙ map-append datum_of old more
    ∙ ap (λ xs. map datum_of old ++ xs) (same ∙ sym (item_list-items_of ds) ∙ sym (ap (λ o. item_list (items_under o)) there))

-- the first entry is put again where it stands
first_put : (e : List ℕ × Datum) (es : Entries) → with_entry (e ∷ es) e.0 e.1 ≡ e ∷ es
first_put e es = ap (λ o. match_ordering o ((e.0, e.1) ∷ e ∷ es) ((e.0, e.1) ∷ es) (e ∷ with_entry es e.0 e.1)) (tied_itself nat_list_cmp_total e.0)

not_none : (e : List ℕ × Datum) (es : Entries) → e ∷ es ≡ [] → ⊥
not_none e es h = cc

pub first_again : (es : Entries) (front : List (List ℕ × Value)) (e f : List ℕ × Value) (k : List ℕ) (d : Datum) → map entry_of front ≡ take (length front) es → 1 ≤ length front
    → e ≡ get_or front 0 e → f ≡ get_or front 0 f → k ≡ e.0 → d ≡ datum_of f.1 → with_entry es k d ≡ es
first_again es [] e f k d same some is are key value = absurd (omega (arith, some))
first_again [] (x ∷ front) e f k d same some is are key value = absurd (not_none (entry_of x) (map entry_of front) same)
first_again (y ∷ es) (x ∷ front) e f k d same some is are key value =
    let first : entry_of x ≡ y = ap (λ l. get_or l 0 y) same in
    let one : k ≡ y.0 = key ∙ ap (λ e. e.0) is ∙ ap (λ e. e.0) first in
    let two : d ≡ y.1 = value ∙ ap (λ e. datum_of e.1) are ∙ ap (λ e. e.1) first in
    ap (λ k. with_entry (y ∷ es) k d) one ∙ ap (with_entry (y ∷ es) y.0) two ∙ first_put y es

pub again_or_not : {T E : Type 0} (r : Result T E) (old new put : Entries) → OnOk r (new ≡ put) → OnErr r (new ≡ old) → put ≡ old → new ≡ old
again_or_not (Ok x) old new put ok err same = ok ∙ same
again_or_not (Err e) old new put ok err same = err
