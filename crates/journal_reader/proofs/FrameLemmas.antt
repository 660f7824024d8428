-- The items of a list and the entries of a record that are still to come.
use Rattle.std.proofs.Common.{◌≡◌, ◌≤◌, ◌<◌, ℕ, zero, suc, ◌+◌, List, [], ◌∷◌, ◌++◌, length, map, refl, sym, ap, subst, ◌∙◌, append-nil, append_assoc, arith, Option, Some, None, Ok, Err}
use Rattle.std.specs.Prelude.{flat_map, IfErr, IfOk, Result}
use Rattle.edges.proofs.ToldBytes.{consumes_none}
use Rattle.journal_reader.proofs.HeadLemmas.{head_text}
use Rattle.journal_reader.proofs.StepLemmas.{no_step, on_read, on_read_behind, on_starves, on_stops, part_steps, seen_steps}
use Rattle.journal_reader.proofs.ValueLemmas.{attrs_are, attrs_so, attrs_text, list_arm, list_value_is, list_value_text, pairs_back, pairs_seen, rec_value_is, value_body, value_tag, value_text, KeysRise}
use Rattle.journal_reader.specs.Frames.{IsBehind, IsFilledBy, IsHead, IsListBehind, IsListStep, IsNext, IsPlain, IsRecordBehind, IsValueOf, IsWhole, ReadsOn, Steps, of_head}
use Rattle.journal_reader.specs.Reads.{Reads, Sorts}
use Rattle.journal_reader.specs.Values.{IsPair, IsValue, are_attrs, of_pair}
use Rattle.journal_reader.specs.declared.frame.Frame.{Frame}
use Rattle.journal_reader.specs.declared.frame.Frame.TheVariants.{Items, Entries}
use Rattle.journal_reader.specs.declared.frame.Step.{Step}
use Rattle.journal_reader.specs.declared.frame.Step.TheVariants.{Whole, Waits}
use Rattle.journal_reader.specs.declared.head.Head.{Head}
use Rattle.journal_reader.specs.declared.head.Head.TheVariants as head
use Rattle.journal_reader.specs.declared.unread.Unread.{Unread}
use Rattle.journal_reader.specs.declared.unread.Unread.TheVariants.{Failed, NotThere, TooLong}
use Rattle.pg_text.specs.declared.failure.Failure.{Failure}
use Rattle.pg_text.specs.declared.failure.Failure.TheVariants.{Fault, NoMemory}
use Rattle.pg_value.proofs.Inverses.{entry_list-entries_of}
use Rattle.pg_value.specs.Attrs.{AreInOrder}
use Rattle.pg_value.specs.Datum.{Datum}
use Rattle.pg_value.specs.Value.{datum_of, entry_of}
use Rattle.pg_value.specs.declared.value.Value.{Value}
use Rattle.pg_value.specs.declared.value.Value.TheVariants as variant
use Rattle.site_journal.proofs.Apart.{head_same, number_apart, tail_same, text_apart}
use Rattle.site_journal.proofs.WordsApart.{value_apart}
use Rattle.site_journal.specs.Codes.{IsList, IsNumber, IsText, of_bytes, of_list, of_number}
use Rattle.site_journal.specs.Journal.{of_value}
use Rattle.site_journal.specs.Reading.{StandsApart}

-- heads stand apart

plain_below : (v : Value) → IsPlain v → value_tag v ≤ 3
plain_below variant.Null is = omega arith
plain_below (variant.Bool b) is = omega arith
plain_below (variant.Int n) is = omega arith
plain_below (variant.Text t) is = omega arith
plain_below (variant.List ds) is = absurd is
plain_below (variant.Rec es) is = absurd is

plain_apart : (v : Value) (n : ℕ) (s t : List ℕ) → IsPlain v → 3 < n → of_value v ++ s ≡ n ∷ t → ⊥
plain_apart v n s t is above e =
    let same : value_tag v ≡ n = head_same (value_tag v) n (value_body v ++ s) t (ap (λ x. x ++ s) (sym (value_text v)) ∙ e) in
    let below = plain_below v is in
    omega (arith, same, below, above)

count_apart : (tag n m : ℕ) (s t : List ℕ) → IsNumber n → IsNumber m → (tag ∷ of_number n) ++ s ≡ (tag ∷ of_number m) ++ t → (n ≡ m) × (s ≡ t)
count_apart tag n m s t is also e = number_apart n m s t is also (tail_same tag tag (of_number n ++ s) (of_number m ++ t) e)

head_apart : StandsApart IsHead of_head
head_apart (head.Plain v) (head.Plain w) s t is also e = let p = value_apart v w s t is.1 also.1 e in (ap head.Plain p.0, p.1)
head_apart (head.Plain v) (head.List m) s t is also e = absurd (plain_apart v 4 s (of_number m ++ t) is.0 (omega arith) e)
head_apart (head.Plain v) (head.Record m) s t is also e = absurd (plain_apart v 5 s (of_number m ++ t) is.0 (omega arith) e)
head_apart (head.List n) (head.Plain w) s t is also e = absurd (plain_apart w 4 t (of_number n ++ s) also.0 (omega arith) (sym e))
head_apart (head.Record n) (head.Plain w) s t is also e = absurd (plain_apart w 5 t (of_number n ++ s) also.0 (omega arith) (sym e))
head_apart (head.List n) (head.List m) s t is also e = let p = count_apart 4 n m s t is also e in (ap head.List p.0, p.1)
head_apart (head.Record n) (head.Record m) s t is also e = let p = count_apart 5 n m s t is also e in (ap head.Record p.0, p.1)
head_apart (head.List n) (head.Record m) s t is also e = let same : 4 ≡ 5 = head_same 4 5 (of_number n ++ s) (of_number m ++ t) e in absurd (omega (arith, same))
head_apart (head.Record n) (head.List m) s t is also e = let same : 5 ≡ 4 = head_same 5 4 (of_number n ++ s) (of_number m ++ t) e in absurd (omega (arith, same))

-- what is to come behind a head makes the value

list_begins : (n : ℕ) → IsNumber n → (v : Value) (t : List ℕ) → IsListBehind [] n v t → IsValueOf v (4 ∷ of_number n ++ t)
list_begins n is v t (xs, so, at, made) = (
  subst IsValue (sym made) (list_value_is xs (subst IsNumber (sym so.0) is, so.1)),
  ap (λ x. 4 ∷ of_number n ++ x) at ∙ ap (λ m. 4 ∷ of_number m ++ flat_map of_value xs) (sym so.0) ∙ sym (list_value_text xs) ∙ ap of_value (sym made),
)

record_begins : (n : ℕ) → IsNumber n → (v : Value) (t : List ℕ) → IsRecordBehind [] n v t → IsValueOf v (5 ∷ of_number n ++ t)
record_begins n is v t (xs, so, at, rise, made) =
    let es = map entry_of xs in
    let seen : are_attrs es ≡ xs = pairs_seen xs in (
      subst IsValue (sym made) (rec_value_is es (attrs_are es (subst (λ ps. IsList IsPair ps) (sym seen) (subst IsNumber (sym so.0) is, so.1)) (subst KeysRise (sym seen) rise))),
      ap (λ x. 5 ∷ of_number n ++ x) at ∙ ap (λ m. 5 ∷ of_number m ++ flat_map of_pair xs) (sym so.0) ∙ ap (λ ps. 5 ∷ of_list of_pair ps) (sym seen) ∙ ap (λ x. 5 ∷ x) (sym (attrs_text es)) ∙ ap of_value (sym made),
    )

head_makes : (h : Head) → IsHead h → (v : Value) (t : List ℕ) → IsBehind h v t → IsValueOf v (of_head h ++ t)
head_makes (head.Plain x) is v t (same, none) = (subst IsValue (sym same) is.1, ap (λ s. of_value x ++ s) none ∙ append-nil (of_value x) ∙ ap of_value (sym same))
head_makes (head.List n) is v t behind = list_begins n is v t behind
head_makes (head.Record n) is v t behind = record_begins n is v t behind

-- and each value begins with a head

plain_opens : (v : Value) → IsPlain v → IsValue v → (h : Head) × (u : List ℕ) × IsHead h × (of_value v ≡ of_head h ++ u) × IsBehind h v u
plain_opens v plain is = (head.Plain v, [], (plain, is), sym (append-nil (of_value v)), (refl, refl))

value_opens : (v : Value) → IsValue v → (h : Head) × (u : List ℕ) × IsHead h × (of_value v ≡ of_head h ++ u) × IsBehind h v u
value_opens variant.Null is = plain_opens variant.Null tt is
value_opens (variant.Bool b) is = plain_opens (variant.Bool b) tt is
value_opens (variant.Int n) is = plain_opens (variant.Int n) tt is
value_opens (variant.Text t) is = plain_opens (variant.Text t) tt is
value_opens (variant.List ds) is =
    let a = list_arm (variant.List ds) is refl in
    (head.List (length a.0), flat_map of_value a.0, a.1.0, ap (λ x. 4 ∷ x) a.2, (a.0, (refl, a.1.1), refl, a.3))
value_opens (variant.Rec es) is =
    let so = attrs_so es (is.0, subst AreInOrder (entry_list-entries_of es) is.1, is.2) in
    let ps = are_attrs es in
    (head.Record (length ps), flat_map of_pair ps, so.0.0, ap (λ x. 5 ∷ x) (attrs_text es), (ps, (refl, so.0.1), refl, so.1, ap variant.Rec (sym (pairs_back es))))

text_opens : (v : Value) (t : List ℕ) → IsValueOf v t → (h : Head) × (u : List ℕ) × IsHead h × (t ≡ of_head h ++ u) × IsBehind h v u
text_opens v t is = let o = value_opens v is.0 in (o.0, o.1, o.2, is.1 ∙ o.3, o.4)

-- the head of a value was read
pub head_steps : {left later : Option (List ℕ)} {room rest before now : ℕ} {h : Head} → Reads IsHead of_head left later room rest before now (Ok h) → Steps IsValueOf (IsBehind h) left later room rest
head_steps {h = h} was = part_steps IsHead of_head head_apart (head_makes h was.answered.is) (λ v t is. let o = text_opens v t is in (o.0, o.1, o.2, o.3, λ same. subst (λ g. IsBehind g v o.1) same o.4)) was

pub head_stops : {left later : Option (List ℕ)} {room rest before now : ℕ} {failure : Failure Unread} → Reads IsHead of_head left later room rest before now (Err failure) → ReadsOn IsValueOf IsNext left later room rest before now (Err failure)
head_stops was = on_stops IsHead of_head (λ v t is. let o = text_opens v t is in (o.0, o.1, o.2, o.3)) was

-- a head has at least its byte
pub head_takes : {left later : Option (List ℕ)} {room rest before now : ℕ} {h : Head} → Reads IsHead of_head left later room rest before now (Ok h) → rest < room
head_takes {h = h} was = omega (arith, was.answered.counted, ap length (head_text h))

-- the next item of a list

push_again : {A : Type 0} (done : List A) (x : A) (xs : List A) → done ++ x ∷ xs ≡ (done ++ x ∷ []) ++ xs
push_again done x xs = sym (append_assoc done (x ∷ []) xs)

-- what comes of a list that has these items, with so many left to come
abbrev item_step : List Value → ℕ → Step
item_step done zero = Whole (variant.List (map datum_of done))
item_step done (suc left) = Waits (Items done left)

is_next : (n m : ℕ) → m + 1 ≡ n → n ≡ suc m
is_next n m is = omega (arith, is)

step_is : (done : List Value) (n : ℕ) (step : Step) → IsListStep done n step → step ≡ item_step done n
step_is done n (Whole x) is = ap Whole is.1 ∙ ap (item_step done) (sym is.0)
step_is done n (Waits (Items items m)) is = ap (λ ys. Waits (Items ys m)) is.0 ∙ ap (item_step done) (sym (is_next n m is.1))
step_is done n (Waits (Entries entries key m)) is = absurd is

item_next : (done : List Value) (left : ℕ) (v : Value) (t : List ℕ) → IsListBehind done left v t → IsNext (item_step done left) v t
item_next done zero v t ([], so, at, made) = (made ∙ ap (λ ys. variant.List (map datum_of ys)) (append-nil done), at)
item_next done zero v t (x ∷ xs, so, at, made) = absurd (omega (arith, so.0))
item_next done (suc left) v t ([], so, at, made) = absurd (omega (arith, so.0))
item_next done (suc left) v t (x ∷ xs, so, at, made) =
    (x, of_value x, flat_map of_value xs, (so.1.0, refl), (xs, (omega (arith, so.0), so.1.1), refl, made ∙ ap (λ ys. variant.List (map datum_of ys)) (push_again done x xs)), at)

item_back : (done : List Value) (left : ℕ) (v : Value) (t : List ℕ) → IsNext (item_step done left) v t → IsListBehind done left v t
item_back done zero v t (same, none) = ([], (refl, tt), none, same ∙ ap (λ ys. variant.List (map datum_of ys)) (sym (append-nil done)))
item_back done (suc left) v t (x, a, b, is, (xs, so, behind, made), at) = (
  x ∷ xs,
  (omega (arith, so.0), (is.0, so.1)),
  at ∙ ap (λ s. s ++ b) is.1 ∙ ap (λ s. of_value x ++ s) behind,
  made ∙ ap (λ ys. variant.List (map datum_of ys)) (sym (push_again done x xs)),
)

-- what comes of a list that was begun or given an item
list_goes_on : {R : Value → List ℕ → Type 0} {left later : Option (List ℕ)} {room rest before now : ℕ} {step : Step} (done : List Value) (n : ℕ) → step ≡ item_step done n → Steps R (IsListBehind done n) left later room rest → before ≤ now
    → ReadsOn R IsNext left later room rest before now (Ok step)
list_goes_on {R = R} {left = left} {later = later} {room = room} {rest = rest} {before = before} {now = now} done n is step le =
    subst (λ s. ReadsOn R IsNext left later room rest before now (Ok s)) (sym is) (on_read (item_step done n) (seen_steps (item_next done n) (item_back done n) step) le)

-- the next entry of a record

entry_opens : (done : List (List ℕ × Value)) (n : ℕ) (v : Value) (t : List ℕ) → IsRecordBehind done (suc n) v t → (key : List ℕ) × (u : List ℕ) × IsText key × (t ≡ of_bytes key ++ u) × IsNext (Waits (Entries done key n)) v u
entry_opens done n v t ([], so, at, rise, made) = absurd (omega (arith, so.0))
entry_opens done n v t (x ∷ xs, so, at, rise, made) =
    let more = flat_map of_pair xs in
    let again = push_again done x xs in (
      x.0,
      of_value x.1 ++ more,
      so.1.0.0,
      at ∙ append_assoc (of_bytes x.0) (of_value x.1) more,
      (x.1, of_value x.1, more, (so.1.0.1, refl), (xs, (omega (arith, so.0), so.1.1), refl, subst (λ ys. AreInOrder (map entry_of ys)) again rise, made ∙ ap (λ ys. variant.Rec (map entry_of ys)) again), refl),
    )

entry_makes : (done : List (List ℕ × Value)) (n : ℕ) (key : List ℕ) → IsText key → (v : Value) (t : List ℕ) → IsNext (Waits (Entries done key n)) v t → IsRecordBehind done (suc n) v (of_bytes key ++ t)
entry_makes done n key is v t (x, a, b, value, (xs, so, behind, rise, made), at) =
    let again = sym (push_again done (key, x) xs) in (
      (key, x) ∷ xs,
      (omega (arith, so.0), ((is, value.0), so.1)),
      ap (λ s. of_bytes key ++ s) (at ∙ ap (λ s. s ++ b) value.1 ∙ ap (λ s. of_value x ++ s) behind) ∙ sym (append_assoc (of_bytes key) (of_value x) (flat_map of_pair xs)),
      subst (λ ys. AreInOrder (map entry_of ys)) again rise,
      made ∙ ap (λ ys. variant.Rec (map entry_of ys)) again,
    )

pub entry_read : {left later : Option (List ℕ)} {room rest before now : ℕ} {key : List ℕ} (done : List (List ℕ × Value)) (n m : ℕ) → m + 1 ≡ n → Reads IsText of_bytes left later room rest before now (Ok key)
    → ReadsOn (IsRecordBehind done n) IsNext left later room rest before now (Ok (Waits (Entries done key m)))
entry_read {left = left} {later = later} {room = room} {rest = rest} {before = before} {now = now} {key = key} done n m is was =
    subst (λ k. ReadsOn (IsRecordBehind done k) IsNext left later room rest before now (Ok (Waits (Entries done key m)))) (sym (is_next n m is))
    (on_read (Waits (Entries done key m))
    (part_steps IsText of_bytes text_apart (entry_makes done m key was.answered.is) (λ v t behind. let o = entry_opens done m v t behind in (o.0, o.1, o.2, o.3, λ same. subst (λ k. IsNext (Waits (Entries done k m)) v o.1) same o.4)) was) was.counted)

pub entry_stops : {left later : Option (List ℕ)} {room rest before now : ℕ} {failure : Failure Unread} (done : List (List ℕ × Value)) (n m : ℕ) → m + 1 ≡ n → Reads IsText of_bytes left later room rest before now (Err failure)
    → ReadsOn (IsRecordBehind done n) IsNext left later room rest before now (Err failure)
entry_stops {left = left} {later = later} {room = room} {rest = rest} {before = before} {now = now} {failure = failure} done n m is was =
    subst (λ k. ReadsOn (IsRecordBehind done k) IsNext left later room rest before now (Err failure)) (sym (is_next n m is))
    (on_stops IsText of_bytes (λ v t behind. let o = entry_opens done m v t behind in (o.0, o.1, o.2, o.3)) was)

-- a record to which none is left to come

record_over : (done : List (List ℕ × Value)) (v : Value) (t : List ℕ) → IsRecordBehind done 0 v t → KeysRise done × IsWhole (variant.Rec (map entry_of done)) v t
record_over done v t ([], so, at, rise, made) =
    let same = append-nil done in (subst (λ ys. AreInOrder (map entry_of ys)) same rise, (made ∙ ap (λ ys. variant.Rec (map entry_of ys)) same, at))
record_over done v t (x ∷ xs, so, at, rise, made) = absurd (omega (arith, so.0))

record_back : (done : List (List ℕ × Value)) → KeysRise done → (v : Value) (t : List ℕ) → IsWhole (variant.Rec (map entry_of done)) v t → IsRecordBehind done 0 v t
record_back done rise v t (same, none) =
    let again = sym (append-nil done) in ([], (refl, tt), none, subst (λ ys. AreInOrder (map entry_of ys)) again rise, same ∙ ap (λ ys. variant.Rec (map entry_of ys)) again)

record_is : (done : List (List ℕ × Value)) (es : List (List ℕ × Datum)) → are_attrs es ≡ done → map entry_of done ≡ es
record_is done es same = ap (map entry_of) (sym same) ∙ pairs_back es

pub record_made : {left : Option (List ℕ)} {room before : ℕ} {es : List (List ℕ × Datum)} (done : List (List ℕ × Value)) (n : ℕ) (made : List (List ℕ × Datum)) → n ≡ 0 → Sorts are_attrs KeysRise done (Ok es) → made ≡ es
    → ReadsOn (IsRecordBehind done n) IsNext left left room room before before (Ok (Whole (variant.Rec made)))
record_made {left = left} {room = room} {before = before} {es = es} done n made none sorts is =
    let same = record_is done es sorts.0 ∙ sym is in
    subst (λ k. ReadsOn (IsRecordBehind done k) IsNext left left room room before before (Ok (Whole (variant.Rec made)))) (sym none)
    (subst (λ fs. ReadsOn (IsRecordBehind done 0) IsNext left left room room before before (Ok (Whole (variant.Rec fs)))) same
    (on_read (Whole (variant.Rec (map entry_of done))) (seen_steps (λ v t behind. (record_over done v t behind).1) (record_back done sorts.1) (no_step (IsRecordBehind done 0) left room)) (omega arith)))

unsorted : (left : Option (List ℕ)) (room before : ℕ) (done : List (List ℕ × Value)) (failure : Failure Unread) → Sorts {A = List (List ℕ × Value)} {B = List (List ℕ × Datum)} are_attrs KeysRise done (Err failure)
    → ReadsOn (IsRecordBehind done 0) IsNext left left room room before before (Err failure)
unsorted None room before done (Fault NotThere) sorts = record { answered = tt; took = ([], consumes_none None); counted = omega arith }
unsorted (Some bytes) room before done (Fault NotThere) sorts = record { answered = λ y s is at. sorts (record_over done y.0 y.1 is).0; took = ([], consumes_none (Some bytes)); counted = omega arith }
unsorted left room before done (Fault TooLong) sorts = absurd sorts
unsorted left room before done (Fault Failed) sorts = absurd sorts
unsorted left room before done NoMemory sorts = record { answered = tt; took = ([], consumes_none left); counted = omega arith }

pub record_unsorted : {left : Option (List ℕ)} {room before : ℕ} {failure : Failure Unread} (done : List (List ℕ × Value)) (n : ℕ) → n ≡ 0 → Sorts {A = List (List ℕ × Value)} {B = List (List ℕ × Datum)} are_attrs KeysRise done (Err failure)
    → ReadsOn (IsRecordBehind done n) IsNext left left room room before before (Err failure)
record_unsorted {left = left} {room = room} {before = before} {failure = failure} done n none sorts =
    subst (λ k. ReadsOn (IsRecordBehind done k) IsNext left left room room before before (Err failure)) (sym none) (unsorted left room before done failure sorts)

-- a step, as the calls that read on tell it

list_told : {R : Value → List ℕ → Type 0} {left later : Option (List ℕ)} {room rest before now : ℕ} (r : Result Step (Failure Unread)) (done : List Value) (n : ℕ) → IfOk r (IsListStep done n) → IfErr r (λ failure. failure ≡ NoMemory)
    → Steps R (IsListBehind done n) left later room rest → before ≤ now → ReadsOn R IsNext left later room rest before now r
list_told (Ok step) done n is none steps le = list_goes_on done n (step_is done n step is) steps le
list_told (Err failure) done n is none steps le = on_starves (Err failure) none steps le

-- a list was begun, and given an item
pub list_begun : {left later : Option (List ℕ)} {room rest before now : ℕ} {h : Head} (r : Result Step (Failure Unread)) (done : List Value) (n : ℕ) → h ≡ head.List n → done ≡ [] → IfOk r (IsListStep done n) → IfErr r (λ failure. failure ≡ NoMemory)
    → Reads IsHead of_head left later room rest before now (Ok h) → ReadsOn IsValueOf IsNext left later room rest before now r
list_begun {left = left} {later = later} {room = room} {rest = rest} r done n list empty is none was =
    list_told r done n is none
    (subst (λ ys. Steps IsValueOf (IsListBehind ys n) left later room rest) (sym empty) (subst (λ g. Steps IsValueOf (IsBehind g) left later room rest) list (head_steps was))) was.counted

pub list_filled : {left : Option (List ℕ)} {room before : ℕ} {frame : Frame} (x : Value) (r : Result Step (Failure Unread)) (done new : List Value) (n : ℕ) → frame ≡ Items done n → new ≡ done ++ x ∷ [] → IfOk r (IsListStep new n) → IfErr r (λ failure. failure ≡ NoMemory)
    → ReadsOn (IsFilledBy frame x) IsNext left left room room before before r
list_filled {left = left} {room = room} {before = before} x r done new n items pushed is none =
    subst (λ f. ReadsOn (IsFilledBy f x) IsNext left left room room before before r) (sym items)
    (subst (λ ys. ReadsOn (IsListBehind ys n) IsNext left left room room before before r) pushed (list_told r new n is none (no_step (IsListBehind new n) left room) (omega arith)))

-- and a record
pub record_begun : {left mid later : Option (List ℕ)} {room half rest before between now : ℕ} {h : Head} (r : Result Step (Failure Unread)) (done : List (List ℕ × Value)) (n : ℕ) → h ≡ head.Record n → done ≡ [] → Reads IsHead of_head left mid room half before between (Ok h)
    → ReadsOn (IsRecordBehind done n) IsNext mid later half rest between now r → ReadsOn IsValueOf IsNext left later room rest before now r
record_begun {left = left} {mid = mid} {room = room} {half = half} r done n counted empty first second =
    on_read_behind r (subst (λ ys. Steps IsValueOf (IsRecordBehind ys n) left mid room half) (sym empty) (subst (λ g. Steps IsValueOf (IsBehind g) left mid room half) counted (head_steps first))) first.counted second

pub record_filled : {left later : Option (List ℕ)} {room rest before now : ℕ} {frame : Frame} (x : Value) (r : Result Step (Failure Unread)) (done new : List (List ℕ × Value)) (key : List ℕ) (n : ℕ) → frame ≡ Entries done key n → new ≡ done ++ (key, x) ∷ []
    → ReadsOn (IsRecordBehind new n) IsNext left later room rest before now r → ReadsOn (IsFilledBy frame x) IsNext left later room rest before now r
record_filled {left = left} {later = later} {room = room} {rest = rest} {before = before} {now = now} x r done new key n entries pushed was =
    subst (λ f. ReadsOn (IsFilledBy f x) IsNext left later room rest before now r) (sym entries) (subst (λ ys. ReadsOn (IsRecordBehind ys n) IsNext left later room rest before now r) pushed was)

-- a plain value is whole
pub plain_begun : {left later : Option (List ℕ)} {room rest before now : ℕ} {h : Head} (r : Result Step (Failure Unread)) (x : Value) → h ≡ head.Plain x → r ≡ Ok (Whole x) → Reads IsHead of_head left later room rest before now (Ok h) → ReadsOn IsValueOf IsNext left later room rest before now r
plain_begun {left = left} {later = later} {room = room} {rest = rest} {before = before} {now = now} r x plain is was =
    subst (λ q. ReadsOn IsValueOf IsNext left later room rest before now q) (sym is) (on_read (Whole x) (subst (λ g. Steps IsValueOf (IsBehind g) left later room rest) plain (head_steps was)) was.counted)

-- what may be read falls by a head

pub falls_by_head : {A : Type 0} (r : Result A (Failure Unread)) (rest room : ℕ) → rest < room → IfOk r (λ a. rest < room)
falls_by_head (Ok a) rest room falls = falls
falls_by_head (Err failure) rest room falls = tt

pub falls_behind_head : {B : Type 0} {R : Value → List ℕ → Type 0} {Then : B → Value → List ℕ → Type 0} {left later : Option (List ℕ)} {room half rest before now : ℕ} (r : Result B (Failure Unread)) → half < room → ReadsOn R Then left later half rest before now r → IfOk r (λ b. rest < room)
falls_behind_head (Ok b) falls was = omega (arith, falls, was.answered.counted)
falls_behind_head (Err failure) falls was = tt
