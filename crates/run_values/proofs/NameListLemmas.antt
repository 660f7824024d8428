-- Entries put in one after the other, where those of one key make a list.
use Rattle.std.proofs.Common.{◌≡◌, ◌≢◌, ◌≤◌, ◌-◌, get_or, ◌==◌, arith, length, zero, suc, take, drop, ℕ, List, [], ◌∷◌, ◌++◌, map, filter, not, ◌&&◌, Option, Some, None, Bool, true, false, Less, Equal, Greater, cond, refl, sym, ap, ◌∙◌, subst, append_assoc}
use Rattle.std.specs.declared.cmp.Ordering.{Ordering}
use Rattle.std.specs.List.{AllByRecursion}
use Rattle.std.specs.List.Sorted.{IsStableBy, ties}
use Rattle.std.specs.Ordering.{is_lt, is_eq, ordering_reverse}
use Rattle.std.specs.Str.{bytes_eq}
use Rattle.std.proofs.lemmas.List.{map-append, take-append-drop, take_all}
use Rattle.std.proofs.lemmas.Slice.Eq.{bytes_eq-Decides}
use Rattle.pg_text.proofs.Halving.{by_order, order, turned}
use Rattle.pg_value.proofs.Gathered.{Entries, same_entries}
use Rattle.pg_value.proofs.Inverses.{item_list-items_of}
use Rattle.pg_value.proofs.Lookups.{entry_at-with_entry, entry_at-with_entry_other}
use Rattle.pg_value.proofs.Order.{AreInOrder-none, AreInOrder-with_entry}
use Rattle.pg_value.specs.Attrs.{AreInOrder, entry_at, with_entry}
use Rattle.pg_value.specs.Datum.{Datum, list, item, items_of, item_list}
use Rattle.pg_value.specs.Value.{datum_of, entry_of}
use Rattle.pg_value.specs.declared.value.Value.{Value}
use Rattle.pg_value.specs.declared.value.Value.TheVariants.{Null}
use Rattle.http_in.specs.declared.params.Param.{Param}
use Rattle.page_meaning.specs.Request.{all_values, items_under, param_entry}
use Rattle.run_values.specs.NameLists.{IsSplitByName, appended, first_named, lists_by_name}

-- the values of a key, in their order
abbrev named : List ℕ → Entries → List Datum
named k [] = []
named k (e ∷ es) = cond (bytes_eq k e.0) (e.1 ∷ named k es) (named k es)

-- what stands under a key of these values, behind what stood there
abbrev behind : Option Datum → List Datum → Option Datum
behind o [] = o
behind o (d ∷ ds) = Some (list (items_of (item_list (items_under o) ++ d ∷ ds)))

-- a list with one more value
abbrev with_value : Option Datum → Datum → Datum
with_value o d = list (items_of (item_list (items_under o) ++ d ∷ []))

other_key : (k l : List ℕ) → bytes_eq k l ≡ false → k ≢ l
other_key k l is = λ same. let no : true ≡ false = sym ((bytes_eq-Decides k l).1 same) ∙ is in cc

behind_one : (o : Option Datum) (d : Datum) (ds : List Datum) → behind (Some (with_value o d)) ds ≡ behind o (d ∷ ds)
behind_one o d [] = refl
behind_one o d (e ∷ ds) =
    ap (λ xs. Some (list (items_of (xs ++ e ∷ ds)))) (item_list-items_of (item_list (items_under o) ++ d ∷ []))
    ∙ ap (λ xs. Some (list (items_of xs))) (append_assoc (item_list (items_under o)) (d ∷ []) (e ∷ ds))

append_by : (b : Bool) (k : List ℕ) (e : List ℕ × Datum) (es done : Entries) → bytes_eq k e.0 ≡ b
    → behind (entry_at k (with_entry done e.0 (with_value (entry_at e.0 done) e.1))) (named k es) ≡ behind (entry_at k done) (cond b (e.1 ∷ named k es) (named k es))
append_by true k e es done is =
    let same : k ≡ e.0 = (bytes_eq-Decides k e.0).0 is in
    ap (λ m. behind (entry_at m (with_entry done e.0 (with_value (entry_at e.0 done) e.1))) (named k es)) same
    ∙ ap (λ o. behind o (named k es)) (entry_at-with_entry done e.0 (with_value (entry_at e.0 done) e.1))
    ∙ behind_one (entry_at e.0 done) e.1 (named k es)
    ∙ ap (λ m. behind (entry_at m done) (e.1 ∷ named k es)) (sym same)
append_by false k e es done is = ap (λ o. behind o (named k es)) (entry_at-with_entry_other done k e.0 (with_value (entry_at e.0 done) e.1) (other_key k e.0 is))

entry_at-appended : (k : List ℕ) (es done : Entries) → entry_at k (appended done es) ≡ behind (entry_at k done) (named k es)
entry_at-appended k [] done = refl
entry_at-appended k (e ∷ es) done =
    entry_at-appended k es (with_entry done e.0 (with_value (entry_at e.0 done) e.1)) ∙ append_by (bytes_eq k e.0) k e es done refl

AreInOrder-appended : (es done : Entries) → AreInOrder done → AreInOrder (appended done es)
AreInOrder-appended [] done h = h
AreInOrder-appended (e ∷ es) done h = AreInOrder-appended es _ (AreInOrder-with_entry done e.0 (with_value (entry_at e.0 done) e.1) h)

-- the same from the last to the first
abbrev with_first : Datum → Option Datum → Datum
with_first d o = list (item d (items_under o))

first_one : (d : Datum) (ds : List Datum) → Some (with_first d (behind None ds)) ≡ behind None (d ∷ ds)
first_one d [] = refl
first_one d (e ∷ ds) = refl

prepend_by : (b : Bool) (k : List ℕ) (e : List ℕ × Datum) (es : Entries) → bytes_eq k e.0 ≡ b → ((l : List ℕ) → entry_at l (lists_by_name es) ≡ behind None (named l es))
    → entry_at k (lists_by_name (e ∷ es)) ≡ behind None (cond b (e.1 ∷ named k es) (named k es))
prepend_by true k e es is later =
    let same : k ≡ e.0 = (bytes_eq-Decides k e.0).0 is in
    ap (λ m. entry_at m (lists_by_name (e ∷ es))) same
    ∙ entry_at-with_entry (lists_by_name es) e.0 (with_first e.1 (entry_at e.0 (lists_by_name es)))
    ∙ ap (λ o. Some (with_first e.1 o)) (later e.0)
    ∙ first_one e.1 (named e.0 es)
    ∙ ap (λ m. behind None (e.1 ∷ named m es)) (sym same)
prepend_by false k e es is later =
    entry_at-with_entry_other (lists_by_name es) k e.0 (with_first e.1 (entry_at e.0 (lists_by_name es))) (other_key k e.0 is) ∙ later k

entry_at-lists_by_name : (k : List ℕ) (es : Entries) → entry_at k (lists_by_name es) ≡ behind None (named k es)
entry_at-lists_by_name k [] = refl
entry_at-lists_by_name k (e ∷ es) = prepend_by (bytes_eq k e.0) k e es refl (λ l. entry_at-lists_by_name l es)

AreInOrder-lists_by_name : (es : Entries) → AreInOrder (lists_by_name es)
AreInOrder-lists_by_name [] = AreInOrder-none
AreInOrder-lists_by_name (e ∷ es) = AreInOrder-with_entry (lists_by_name es) e.0 (with_first e.1 (entry_at e.0 (lists_by_name es))) (AreInOrder-lists_by_name es)

-- sorting that keeps the order of the entries of one key keeps the values of each key
untied : (o : Ordering) → not (is_lt o) && not (is_lt (ordering_reverse o)) ≡ is_eq o
untied Less = refl
untied Equal = refl
untied Greater = refl

ties_by : (o : Ordering) (k l : List ℕ) → order k l ≡ o → not (is_lt (order k l)) && not (is_lt (order l k)) ≡ bytes_eq k l
ties_by o k l h =
    ap (λ p. not (is_lt p) && not (is_lt (order l k))) h
    ∙ ap (λ p. not (is_lt o) && not (is_lt p)) (turned k l o h)
    ∙ untied o
    ∙ sym (by_order o k l h)

kept_by : (b : Bool) (k : List ℕ) (e : List ℕ × Value) (es kept : List (List ℕ × Value)) → bytes_eq k e.0 ≡ b → named k (map entry_of kept) ≡ named k (map entry_of es)
    → named k (map entry_of (cond b (e ∷ kept) kept)) ≡ cond b (datum_of e.1 ∷ named k (map entry_of es)) (named k (map entry_of es))
kept_by true k e es kept h later = ap (λ b. cond b (datum_of e.1 ∷ named k (map entry_of kept)) (named k (map entry_of kept))) h ∙ ap (λ ds. datum_of e.1 ∷ ds) later
kept_by false k e es kept h later = later

named_kept : (k : List ℕ) (p : List ℕ × Value → Bool) → ((e : List ℕ × Value) → p e ≡ bytes_eq k e.0) → (es : List (List ℕ × Value)) → named k (map entry_of (filter p es)) ≡ named k (map entry_of es)
named_kept k p h [] = refl
named_kept k p h (e ∷ es) =
    kept_by (p e) k e es (filter p es) (sym (h e)) (named_kept k p h es) ∙ ap (λ b. cond b (datum_of e.1 ∷ named k (map entry_of es)) (named k (map entry_of es))) (h e)

-- sorted entries that are put in from the first to the last are all entries
pub sorted_entries : (xs ys : List (List ℕ × Value)) → IsStableBy (λ a b. is_lt (order a.0 b.0)) xs ys → appended [] (map entry_of ys) ≡ lists_by_name (map entry_of xs)
sorted_entries xs ys stable =
    let test = λ (k : List ℕ) (e : List ℕ × Value). ties (λ (a : List ℕ × Value) (b : List ℕ × Value). is_lt (order a.0 b.0)) (k, Null) e in
    let of_key : (k : List ℕ) (e : List ℕ × Value) → test k e ≡ bytes_eq k e.0 = λ k e. ties_by (order k e.0) k e.0 refl in
    let values = λ (k : List ℕ). sym (named_kept k (test k) (of_key k) ys) ∙ ap (λ es. named k (map entry_of es)) (stable (k, Null)) ∙ named_kept k (test k) (of_key k) xs in
    same_entries _ _ (AreInOrder-appended (map entry_of ys) [] AreInOrder-none) (AreInOrder-lists_by_name (map entry_of xs))
    (λ k. entry_at-appended k (map entry_of ys) [] ∙ ap (behind None) (values k) ∙ sym (entry_at-lists_by_name k (map entry_of xs)))

-- an entry put in twice
twice_by : (b : Bool) (l k : List ℕ) (c d : Datum) (es : Entries) → bytes_eq l k ≡ b → entry_at l (with_entry (with_entry es k c) k d) ≡ entry_at l (with_entry es k d)
twice_by true l k c d es is =
    let same : l ≡ k = (bytes_eq-Decides l k).0 is in
    ap (λ m. entry_at m (with_entry (with_entry es k c) k d)) same ∙ entry_at-with_entry (with_entry es k c) k d ∙ sym (ap (λ m. entry_at m (with_entry es k d)) same ∙ entry_at-with_entry es k d)
twice_by false l k c d es is =
    let ne = other_key l k is in
    entry_at-with_entry_other (with_entry es k c) l k d ne ∙ entry_at-with_entry_other es l k c ne ∙ sym (entry_at-with_entry_other es l k d ne)

twice : (es : Entries) (k : List ℕ) (c d : Datum) → AreInOrder es → with_entry (with_entry es k c) k d ≡ with_entry es k d
twice es k c d h =
    same_entries _ _ (AreInOrder-with_entry (with_entry es k c) k d (AreInOrder-with_entry es k c h)) (AreInOrder-with_entry es k d h) (λ l. twice_by (bytes_eq l k) l k c d es refl)

-- entries of one key are put in at once
pub run_appended : (k : List ℕ) (d : Datum) (run : List (List ℕ × Value)) (rest done : Entries) → AllByRecursion (λ e. e.0 ≡ k) run → AreInOrder done
    → appended done ((k, d) ∷ map entry_of run ++ rest) ≡ appended (with_entry done k (list (items_of (item_list (items_under (entry_at k done)) ++ d ∷ map (λ e. datum_of e.1) run)))) rest
run_appended k d [] rest done all h = refl
run_appended k d (f ∷ run) rest done all h =
    let one = with_value (entry_at k done) d in
    let first = with_entry done k one in
    let more = λ (ds : List Datum). list (items_of (ds ++ datum_of f.1 ∷ map (λ e. datum_of e.1) run)) in
    ap (λ m. appended first ((m, datum_of f.1) ∷ map entry_of run ++ rest)) all.0
    ∙ run_appended k (datum_of f.1) run rest first all.1 (AreInOrder-with_entry done k one h)
    ∙ ap (λ o. appended (with_entry first k (more (item_list (items_under o)))) rest) (entry_at-with_entry done k one)
    ∙ ap (λ ds. appended (with_entry first k (more ds)) rest) (item_list-items_of (item_list (items_under (entry_at k done)) ++ d ∷ []))
    ∙ ap (λ ds. appended (with_entry first k (list (items_of ds))) rest) (append_assoc (item_list (items_under (entry_at k done))) (d ∷ []) (datum_of f.1 ∷ map (λ e. datum_of e.1) run))
    ∙ ap (λ es. appended es rest) (twice done k one _ h)

-- the first entries of a name
first_taken : (k : List ℕ) (es : Entries) → (b : Bool) (e : List ℕ × Datum) → bytes_eq k e.0 ≡ b → first_named k es ≤ length es → cond b (suc (first_named k es)) zero ≤ length (e ∷ es)
first_taken k es true e is h = omega (arith, h)
first_taken k es false e is h = omega arith

pub first_within : (k : List ℕ) (es : Entries) → first_named k es ≤ length es
first_within k [] = omega arith
first_within k (e ∷ es) = first_taken k es (bytes_eq k e.0) e refl (first_within k es)

first_by : (b : Bool) (k : List ℕ) (e : List ℕ × Value) (es : List (List ℕ × Value)) → bytes_eq k e.0 ≡ b → AllByRecursion (λ x. x.0 ≡ k) (take (first_named k (map entry_of es)) es)
    → AllByRecursion (λ x. x.0 ≡ k) (take (cond b (suc (first_named k (map entry_of es))) zero) (e ∷ es))
first_by true k e es is all = (sym ((bytes_eq-Decides k e.0).0 is), all)
first_by false k e es is all = tt

pub first_all : (k : List ℕ) (es : List (List ℕ × Value)) → AllByRecursion (λ x. x.0 ≡ k) (take (first_named k (map entry_of es)) es)
first_all k [] = tt
first_all k (e ∷ es) = first_by (bytes_eq k e.0) k e es refl (first_all k es)

pub split_is : (k : List ℕ) (es run rest : List (List ℕ × Value)) (count : ℕ) → count ≡ first_named k (map entry_of es) → run ≡ take count es → rest ≡ drop count es → IsSplitByName k run rest es
split_is k es run rest count counted one two = (
  subst (λ xs. AllByRecursion (λ x. x.0 ≡ k) xs) (sym (one ∙ ap (λ n. take n es) counted)) (first_all k es),
  sym (ap (λ xs. xs ++ rest) one ∙ ap (λ xs. take count es ++ xs) two ∙ take-append-drop count es),
)

-- the items of a list that values are put behind
values_are : (more : List (List ℕ × Value)) → map datum_of (map (λ e. e.1) more) ≡ map (λ e. datum_of e.1) more
values_are [] = refl
values_are (e ∷ more) = ap (λ ds. datum_of e.1 ∷ ds) (values_are more)

pub list_is : (items first made : List Value) (v w : Value) (more : List (List ℕ × Value)) (n : ℕ) → made ≡ first ++ map (λ e. e.1) (take n more) → first ≡ items ++ w ∷ [] → w ≡ v → length more ≤ n
    → list (items_of (map datum_of made)) ≡ list (items_of (map datum_of items ++ datum_of v ∷ map (λ e. datum_of e.1) more))
list_is items first made v w more n is begun copied end =
    let whole : made ≡ items ++ v ∷ map (λ e. e.1) more =
    is ∙ ap (λ xs. first ++ map (λ e. e.1) xs) (take_all n more end) ∙ ap (λ xs. xs ++ map (λ e. e.1) more) (begun ∙ ap (λ x. items ++ x ∷ []) copied) ∙ append_assoc items (v ∷ []) (map (λ e. e.1) more) in
    ap (λ xs. list (items_of (map datum_of xs))) whole
    ∙ ap (λ ds. list (items_of ds)) (map-append datum_of items (v ∷ map (λ e. e.1) more) ∙ ap (λ ds. map datum_of items ++ datum_of v ∷ ds) (values_are more))

-- the entries of one name are put in at once, and those behind them come next
pub name_appended : (k : List ℕ) (v : Value) (run rest others : List (List ℕ × Value)) (items : List Value) (done new all : Entries) (made : Datum) → IsSplitByName k run rest others → AreInOrder done
    → items_of (map datum_of items) ≡ items_under (entry_at k done) → made ≡ list (items_of (map datum_of items ++ datum_of v ∷ map (λ e. datum_of e.1) run)) → new ≡ with_entry done k made
    → appended done (map entry_of ((k, v) ∷ others)) ≡ all → appended new (map entry_of rest) ≡ all
name_appended k v run rest others items done new all made split h under is put so_far =
    ap (λ es. appended es (map entry_of rest)) (put ∙ ap (with_entry done k) (is ∙ ap (λ ds. list (items_of (ds ++ datum_of v ∷ map (λ e. datum_of e.1) run))) (sym (item_list-items_of (map datum_of items)) ∙ ap item_list under)))
    ∙ sym (run_appended k (datum_of v) run (map entry_of rest) done split.0 h)
    ∙ ap (λ es. appended done ((k, datum_of v) ∷ es)) (sym (map-append entry_of run rest) ∙ ap (map entry_of) (sym split.1))
    ∙ so_far

-- the first of some entries, and those behind it
pub first_and : (es : List (List ℕ × Value)) (e f : List ℕ × Value) → 1 ≤ length es → e ≡ get_or es 0 e → f ≡ get_or es 0 f → (e.0, f.1) ∷ take (length es - 1) (drop 1 es) ≡ es
first_and [] e f h is are = absurd (omega (arith, h))
first_and (x ∷ es) e f h is are =
    ap (λ y. (y.0, f.1) ∷ take (length (x ∷ es) - 1) es) is ∙ ap (λ y. (x.0, y.1) ∷ take (length (x ∷ es) - 1) es) are ∙ ap (λ xs. x ∷ xs) (take_all (length (x ∷ es) - 1) es (omega arith))

-- one turn: the entries of the first name are put in, and those behind them come next
pub name_step : (done new all : Entries) (rest others run behind : List (List ℕ × Value)) (e f : List ℕ × Value) (items : List Value) (split found put : List ℕ) (w : Value) (made : Datum) → (e.0, f.1) ∷ others ≡ rest
    → split ≡ e.0 → found ≡ e.0 → put ≡ e.0 → IsSplitByName split run behind others → AreInOrder done → items_of (map datum_of items) ≡ items_under (entry_at found done)
    → w ≡ f.1 → made ≡ list (items_of (map datum_of items ++ datum_of w ∷ map (λ x. datum_of x.1) run)) → new ≡ with_entry done put made → appended done (map entry_of rest) ≡ all
    → AreInOrder new × (appended new (map entry_of behind) ≡ all)
name_step done new all rest others run behind e f items split found put w made is one two three cut order under four makes puts so_far =
    let here : new ≡ with_entry done e.0 made = puts ∙ ap (λ k. with_entry done k made) three in (
      subst AreInOrder (sym here) (AreInOrder-with_entry done e.0 made order),
      name_appended e.0 f.1 run behind others items done new all made (subst (λ k. IsSplitByName k run behind others) one cut) order (under ∙ ap (λ k. items_under (entry_at k done)) two)
          (makes ∙ ap (λ v. list (items_of (map datum_of items ++ datum_of v ∷ map (λ x. datum_of x.1) run))) four) here
          (ap (λ es. appended done (map entry_of es)) is ∙ so_far),
    )

-- the lists of parameters
pub params_listed : (params : List Param) → all_values params ≡ lists_by_name (map param_entry params)
params_listed [] = refl
params_listed (p ∷ params) = ap (λ es. with_entry es p.name (list (item (Rattle.pg_value.specs.Datum.text p.value) (items_under (entry_at p.name es))))) (params_listed params)
