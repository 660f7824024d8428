-- Texts that are written one behind the other.
use Rattle.std.proofs.Common.{◌≡◌, ◌≤◌, ◌<◌, ℕ, ◌+◌, Bool, List, [], ◌∷◌, ◌++◌, length, map, take, drop, get_or, refl, sym, ap, subst, ◌∙◌, append_assoc, append-nil, arith, Option}
use Rattle.std.proofs.Math.Seq.{take-add}
use Rattle.std.proofs.lemmas.List.{length-append, map-append, take_all, take_more}
use Rattle.std.proofs.lemmas.Grind.{flat_map-append}
use Rattle.std.specs.Prelude.{flat_map}
use Rattle.pg_value.specs.Datum.{Datum, list, rec, items_of, entries_of}
use Rattle.pg_value.specs.Value.{datum_of, entry_of}
use Rattle.pg_value.specs.declared.value.Value.{Value}
use Rattle.site_journal.specs.Codes.{of_bytes, of_list, of_number}
use Rattle.site_journal.specs.Journal.{entry_count, item_count, of_attrs, of_datum, of_entries, of_entry, of_items, rolled}
use Rattle.site_words.specs.declared.words.Entry.{Entry as TheEntry}
use Rattle.site_words.specs.declared.words.Op.{Op}
use Rattle.site_words.specs.declared.words.Op.TheVariants as op
use Rattle.site_words.specs.declared.words.Reply.{Reply}
use Rattle.site_words.specs.declared.words.Reply.TheVariants as reply
use Rattle.sink_buffer.proofs.Writing.{writes_both, writes_same}
use Rattle.sink_buffer.specs.Buffer.{Buffer, Writes}

-- the next item of a list behind those that were written

flat_next : {A : Type 0} (f : A → List ℕ) (xs : List A) (i : ℕ) (x : A) → i < length xs → x ≡ get_or xs i x → flat_map f (take (i + 1) xs) ≡ flat_map f (take i xs) ++ f x
flat_next f xs i x within is =
    ap (flat_map f) (take_more xs i x within) ∙ flat_map-append f (take i xs) (get_or xs i x ∷ [])
    ∙ ap (λ y. flat_map f (take i xs) ++ (f y ++ [])) (sym is) ∙ ap (λ t. flat_map f (take i xs) ++ t) (append-nil (f x))

pub writes_next : {a b c : Option (List ℕ)} {m n o : ℕ} {p q r : Buffer} {A : Type 0} (f : A → List ℕ) (xs : List A) (i : ℕ) (x : A) → i < length xs → x ≡ get_or xs i x
    → Writes a b m n p q (flat_map f (take i xs)) → Writes b c n o q r (f x) → Writes a c m o p r (flat_map f (take (i + 1) xs))
writes_next f xs i x within is first second = writes_same (sym (flat_next f xs i x within is)) (writes_both first second)

-- all of them
pub writes_all : {a b : Option (List ℕ)} {m n : ℕ} {p q : Buffer} {A : Type 0} (f : A → List ℕ) (xs : List A) (i : ℕ) → length xs ≤ i → Writes a b m n p q (flat_map f (take i xs)) → Writes a b m n p q (flat_map f xs)
writes_all f xs i past first = writes_same (ap (flat_map f) (take_all i xs past)) first

-- a history with a Roll behind it

pub rolled_text : (history : List TheEntry) → (of_number (length history + 1) ++ flat_map of_entry history) ++ (0 ∷ 10 ∷ []) ≡ of_list of_entry (rolled history)
rolled_text history =
    let roll : TheEntry = record { pass = 0; op = op.Roll; reply = reply.Rolled } in
    append_assoc (of_number (length history + 1)) (flat_map of_entry history) (0 ∷ 10 ∷ [])
    ∙ ap (λ t. of_number (length history + 1) ++ t) (sym (flat_map-append of_entry history (roll ∷ [])))
    ∙ ap (λ n. of_number n ++ flat_map of_entry (rolled history)) (sym (length-append history (roll ∷ [])))

-- the items of a value

items_push : (ds : List Datum) (d : Datum) → of_items (items_of (ds ++ d ∷ [])) ≡ of_items (items_of ds) ++ of_datum d
items_push [] d = append-nil (of_datum d)
items_push (c ∷ ds) d = ap (λ t. of_datum c ++ t) (items_push ds d) ∙ sym (append_assoc (of_datum c) (of_items (items_of ds)) (of_datum d))

pub item_next : {a b c : Option (List ℕ)} {m n o : ℕ} {p q r : Buffer} (xs : List Value) (i : ℕ) (x : Value) → i < length xs → x ≡ get_or xs i x
    → Writes a b m n p q (of_items (items_of (map datum_of (take i xs)))) → Writes b c n o q r (of_datum (datum_of x)) → Writes a c m o p r (of_items (items_of (map datum_of (take (i + 1) xs))))
item_next xs i x within is first second =
    let next : of_items (items_of (map datum_of (take (i + 1) xs))) ≡ of_items (items_of (map datum_of (take i xs))) ++ of_datum (datum_of x)
    = ap (λ ys. of_items (items_of (map datum_of ys))) (take_more xs i x within) ∙ ap (λ ds. of_items (items_of ds)) (map-append datum_of (take i xs) (get_or xs i x ∷ []))
    ∙ items_push (map datum_of (take i xs)) (datum_of (get_or xs i x)) ∙ ap (λ y. of_items (items_of (map datum_of (take i xs))) ++ of_datum (datum_of y)) (sym is) in
    writes_same (sym next) (writes_both first second)

pub items_all : {a b : Option (List ℕ)} {m n : ℕ} {p q : Buffer} (xs : List Value) (i : ℕ) → length xs ≤ i → Writes a b m n p q (of_items (items_of (map datum_of (take i xs)))) → Writes a b m n p q (of_items (items_of (map datum_of xs)))
items_all xs i past first = writes_same (ap (λ ys. of_items (items_of (map datum_of ys))) (take_all i xs past)) first

pub items_counted : (ds : List Datum) → item_count (items_of ds) ≡ length ds
items_counted [] = refl
items_counted (d ∷ ds) = ap (λ n. n + 1) (items_counted ds) ∙ omega arith

pub list_text : (n : ℕ) (ds es : List Datum) → n ≡ length ds → es ≡ ds → ((4 ∷ []) ++ of_number n) ++ of_items (items_of es) ≡ of_datum (list (items_of ds))
list_text n ds es count same =
    ap (λ m. ((4 ∷ []) ++ of_number m) ++ of_items (items_of es)) (count ∙ sym (items_counted ds))
    ∙ ap (λ fs. ((4 ∷ []) ++ of_number (item_count (items_of ds))) ++ of_items (items_of fs)) same

-- the entries of a record

entries_push : (es : List (List ℕ × Datum)) (e : List ℕ × Datum) → of_entries (entries_of (es ++ e ∷ [])) ≡ of_entries (entries_of es) ++ (of_bytes e.0 ++ of_datum e.1)
entries_push [] e = append-nil (of_bytes e.0 ++ of_datum e.1)
entries_push (c ∷ es) e = ap (λ t. of_bytes c.0 ++ of_datum c.1 ++ t) (entries_push es e) ∙ sym (append_assoc (of_bytes c.0 ++ of_datum c.1) (of_entries (entries_of es)) (of_bytes e.0 ++ of_datum e.1))

pub entry_next : {a b c d : Option (List ℕ)} {m n o s : ℕ} {p q r u : Buffer} (xs : List (List ℕ × Value)) (i : ℕ) (x : List ℕ × Value) → i < length xs → x ≡ get_or xs i x
    → Writes a b m n p q (of_entries (entries_of (map entry_of (take i xs)))) → Writes b c n o q r (of_bytes x.0) → Writes c d o s r u (of_datum (datum_of x.1))
    → Writes a d m s p u (of_entries (entries_of (map entry_of (take (i + 1) xs))))
entry_next xs i x within is first key value =
    let next : of_entries (entries_of (map entry_of (take (i + 1) xs))) ≡ of_entries (entries_of (map entry_of (take i xs))) ++ (of_bytes x.0 ++ of_datum (datum_of x.1))
    = ap (λ ys. of_entries (entries_of (map entry_of ys))) (take_more xs i x within) ∙ ap (λ ds. of_entries (entries_of ds)) (map-append entry_of (take i xs) (get_or xs i x ∷ []))
    ∙ entries_push (map entry_of (take i xs)) (entry_of (get_or xs i x)) ∙ ap (λ (y : List ℕ × Value). of_entries (entries_of (map entry_of (take i xs))) ++ (of_bytes y.0 ++ of_datum (datum_of y.1))) (sym is) in
    writes_same (sym next) (writes_both first (writes_both key value))

pub entries_all : {a b : Option (List ℕ)} {m n : ℕ} {p q : Buffer} (xs : List (List ℕ × Value)) (i : ℕ) → length xs ≤ i → Writes a b m n p q (of_entries (entries_of (map entry_of (take i xs)))) → Writes a b m n p q (of_entries (entries_of (map entry_of xs)))
entries_all xs i past first = writes_same (ap (λ ys. of_entries (entries_of (map entry_of ys))) (take_all i xs past)) first

entries_append : (es more : List (List ℕ × Datum)) → of_entries (entries_of (es ++ more)) ≡ of_entries (entries_of es) ++ of_entries (entries_of more)
entries_append [] more = refl
entries_append (c ∷ es) more = ap (λ t. of_bytes c.0 ++ of_datum c.1 ++ t) (entries_append es more) ∙ sym (append_assoc (of_bytes c.0 ++ of_datum c.1) (of_entries (entries_of es)) (of_entries (entries_of more)))

-- those of a record that stand together
pub run_next : {a b c : Option (List ℕ)} {m n o : ℕ} {p q r : Buffer} (es seen : List (List ℕ × Datum)) (place count : ℕ) → seen ≡ take count (drop place es)
    → Writes a b m n p q (of_entries (entries_of (take place es))) → Writes b c n o q r (of_entries (entries_of seen)) → Writes a c m o p r (of_entries (entries_of (take (place + count) es)))
run_next es seen place count is first next =
    let longer : of_entries (entries_of (take (place + count) es)) ≡ of_entries (entries_of (take place es)) ++ of_entries (entries_of seen)
    = ap (λ fs. of_entries (entries_of fs)) (take-add place count es ∙ ap (λ fs. take place es ++ fs) (sym is)) ∙ entries_append (take place es) seen in
    writes_same (sym longer) (writes_both first next)

pub runs_all : {a b : Option (List ℕ)} {m n : ℕ} {p q : Buffer} (es : List (List ℕ × Datum)) (place : ℕ) → length es ≤ place → Writes a b m n p q (of_entries (entries_of (take place es))) → Writes a b m n p q (of_entries (entries_of es))
runs_all es place past first = writes_same (ap (λ fs. of_entries (entries_of fs)) (take_all place es past)) first

pub entries_counted : (es : List (List ℕ × Datum)) → entry_count (entries_of es) ≡ length es
entries_counted [] = refl
entries_counted (e ∷ es) = ap (λ n. n + 1) (entries_counted es) ∙ omega arith

pub attrs_text : (n : ℕ) (attrs es : List (List ℕ × Datum)) → n ≡ length attrs → es ≡ attrs → of_number n ++ of_entries (entries_of es) ≡ of_attrs attrs
attrs_text n attrs es count same =
    ap (λ m. of_number m ++ of_entries (entries_of es)) (count ∙ sym (entries_counted attrs))
    ∙ ap (λ fs. of_number (entry_count (entries_of attrs)) ++ of_entries (entries_of fs)) same

pub rec_text : (n : ℕ) (attrs es : List (List ℕ × Datum)) → n ≡ length attrs → es ≡ attrs → ((5 ∷ []) ++ of_number n) ++ of_entries (entries_of es) ≡ of_datum (rec (entries_of attrs))
rec_text n attrs es count same = ap (λ t. 5 ∷ t) (attrs_text n attrs es count same)

-- an entry of these parts
pub same_entry : (e : TheEntry) (pass : ℕ) (o : Op) (r : Reply) → pass ≡ e.pass → o ≡ e.op → r ≡ e.reply → let read : TheEntry = record { pass = pass; op = o; reply = r } in read ≡ e
same_entry e pass o r same_pass same_op same_reply = λ i. record { pass = same_pass i; op = same_op i; reply = same_reply i }
