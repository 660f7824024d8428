-- Parts that are such as have a code.
use Rattle.std.proofs.Common.{◌≡◌, ◌≤◌, ◌<◌, ◌^◌, ℕ, ◌+◌, List, [], ◌∷◌, ◌++◌, length, map, take, drop, get_or, refl, sym, ap, subst, ◌∙◌, arith, lit<}
use Rattle.std.proofs.Math.Seq.{take-add}
use Rattle.std.proofs.lemmas.List.{length-append, map-append, take_all, take_more}
use Rattle.pg_value.proofs.Inverses.{entry_list-entries_of}
use Rattle.pg_value.specs.Attrs.{AreInOrder as KeysRise}
use Rattle.pg_value.specs.Datum.{Datum, list, rec, items_of, entries_of}
use Rattle.pg_value.specs.Value.{datum_of, entry_of}
use Rattle.pg_value.specs.declared.value.Value.{Value}
use Rattle.site_journal.proofs.Written.{entries_counted, items_counted}
use Rattle.site_journal.specs.Codes.{IsList, IsNumber, IsText}
use Rattle.site_journal.specs.Journal.{rolled}
use Rattle.site_journal.specs.Reading.{AreAttrs, AreEntries, AreItems, HasParts, IsDatum}
use Rattle.site_words.proofs.Items.{each_push}
use Rattle.site_words.specs.Trees.{Each}
use Rattle.site_words.specs.declared.words.Entry.{Entry as TheEntry}
use Rattle.site_words.specs.declared.words.Op.TheVariants as op
use Rattle.site_words.specs.declared.words.Reply.TheVariants as reply

-- the items of a list

pub each_next : {A : Type 0} (P : A → Type 0) (xs : List A) (i : ℕ) (x : A) → i < length xs → x ≡ get_or xs i x → Each P (take i xs) → P x → Each P (take (i + 1) xs)
each_next P xs i x within is first next = subst (Each P) (sym (take_more xs i x within)) (each_push P (take i xs) (get_or xs i x) first (subst P is next))

pub each_all : {A : Type 0} (P : A → Type 0) (xs : List A) (i : ℕ) → length xs ≤ i → Each P (take i xs) → Each P xs
each_all P xs i past first = subst (Each P) (take_all i xs past) first

-- a history with a Roll behind it

pub rolled_parts : (history : List TheEntry) → length history + 1 < 2 ^ 64 → Each HasParts history → IsList HasParts (rolled history)
rolled_parts history short each =
    let roll : TheEntry = record { pass = 0; op = op.Roll; reply = reply.Rolled } in
    let has_parts : HasParts roll = record { pass = lit< tt; op_is = tt; reply_is = tt } in
    (subst (λ n. n < 2 ^ 64) (sym (length-append history (roll ∷ []))) short, each_push HasParts history roll each has_parts)

-- the items of a value

items_push : (ds : List Datum) (d : Datum) → AreItems (items_of ds) → IsDatum d → AreItems (items_of (ds ++ d ∷ []))
items_push [] d are is = (is, tt)
items_push (c ∷ ds) d are is = (are.0, items_push ds d are.1 is)

pub item_parts : (xs : List Value) (i : ℕ) (x : Value) → i < length xs → x ≡ get_or xs i x → AreItems (items_of (map datum_of (take i xs))) → IsDatum (datum_of x) → AreItems (items_of (map datum_of (take (i + 1) xs)))
item_parts xs i x within is first next =
    let longer = ap (map datum_of) (take_more xs i x within) ∙ map-append datum_of (take i xs) (get_or xs i x ∷ []) in
    subst (λ ds. AreItems (items_of ds)) (sym longer) (items_push (map datum_of (take i xs)) (datum_of (get_or xs i x)) first (subst (λ (y : Value). IsDatum (datum_of y)) is next))

pub items_parts : (xs : List Value) (i : ℕ) → length xs ≤ i → AreItems (items_of (map datum_of (take i xs))) → AreItems (items_of (map datum_of xs))
items_parts xs i past first = subst (λ ys. AreItems (items_of (map datum_of ys))) (take_all i xs past) first

pub list_parts : (n : ℕ) (ds es : List Datum) → n ≡ length ds → es ≡ ds → IsNumber n → AreItems (items_of es) → IsDatum (list (items_of ds))
list_parts n ds es count same short are = (subst IsNumber (count ∙ sym (items_counted ds)) short, subst (λ fs. AreItems (items_of fs)) same are)

-- the entries of a record

entries_push : (es : List (List ℕ × Datum)) (e : List ℕ × Datum) → AreEntries (entries_of es) → IsText e.0 → IsDatum e.1 → AreEntries (entries_of (es ++ e ∷ []))
entries_push [] e are key is = (key, is, tt)
entries_push (c ∷ es) e are key is = (are.0, are.1, entries_push es e are.2 key is)

entries_joined : (es more : List (List ℕ × Datum)) → AreEntries (entries_of es) → AreEntries (entries_of more) → AreEntries (entries_of (es ++ more))
entries_joined [] more first next = next
entries_joined (c ∷ es) more first next = (first.0, first.1, entries_joined es more first.2 next)

-- those of a record that stand together
pub run_parts : (es seen : List (List ℕ × Datum)) (place count : ℕ) → seen ≡ take count (drop place es) → AreEntries (entries_of (take place es)) → AreEntries (entries_of seen) → AreEntries (entries_of (take (place + count) es))
run_parts es seen place count is first next =
    subst (λ fs. AreEntries (entries_of fs)) (sym (take-add place count es ∙ ap (λ fs. take place es ++ fs) (sym is))) (entries_joined (take place es) seen first next)

pub runs_parts : (es : List (List ℕ × Datum)) (place : ℕ) → length es ≤ place → AreEntries (entries_of (take place es)) → AreEntries (entries_of es)
runs_parts es place past first = subst (λ fs. AreEntries (entries_of fs)) (take_all place es past) first

pub entry_parts : (xs : List (List ℕ × Value)) (i : ℕ) (x : List ℕ × Value) → i < length xs → x ≡ get_or xs i x → AreEntries (entries_of (map entry_of (take i xs))) → IsText x.0 → IsDatum (datum_of x.1)
    → AreEntries (entries_of (map entry_of (take (i + 1) xs)))
entry_parts xs i x within is first key value =
    let longer = ap (map entry_of) (take_more xs i x within) ∙ map-append entry_of (take i xs) (get_or xs i x ∷ []) in
    subst (λ es. AreEntries (entries_of es)) (sym longer)
    (entries_push (map entry_of (take i xs)) (entry_of (get_or xs i x)) first (subst (λ (y : List ℕ × Value). IsText y.0) is key) (subst (λ (y : List ℕ × Value). IsDatum (datum_of y.1)) is value))

pub entries_parts : (xs : List (List ℕ × Value)) (i : ℕ) → length xs ≤ i → AreEntries (entries_of (map entry_of (take i xs))) → AreEntries (entries_of (map entry_of xs))
entries_parts xs i past first = subst (λ ys. AreEntries (entries_of (map entry_of ys))) (take_all i xs past) first

pub attrs_parts : (n : ℕ) (attrs es : List (List ℕ × Datum)) → n ≡ length attrs → es ≡ attrs → IsNumber n → KeysRise attrs → AreEntries (entries_of es) → AreAttrs attrs
attrs_parts n attrs es count same short rise are = (subst IsNumber (count ∙ sym (entries_counted attrs)) short, rise, subst (λ fs. AreEntries (entries_of fs)) same are)

pub rec_parts : (n : ℕ) (attrs es : List (List ℕ × Datum)) → n ≡ length attrs → es ≡ attrs → IsNumber n → KeysRise attrs → AreEntries (entries_of es) → IsDatum (rec (entries_of attrs))
rec_parts n attrs es count same short rise are =
    (subst IsNumber (count ∙ sym (entries_counted attrs)) short, subst KeysRise (sym (entry_list-entries_of attrs)) rise, subst (λ fs. AreEntries (entries_of fs)) same are)
