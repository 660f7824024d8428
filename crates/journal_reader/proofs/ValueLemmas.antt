-- Values and attributes that are read.
use Rattle.std.proofs.Common.{◌≡◌, ◌≤◌, ℕ, suc, ◌+◌, List, [], ◌∷◌, ◌++◌, length, map, refl, sym, ap, subst, ◌∙◌, arith, Option, Ok, Err, Bool}
use Rattle.std.specs.Cmp.Lexicographic.{slice_cmp}
use Rattle.std.specs.List.Sorted.{IsStrictlySortedBy}
use Rattle.std.specs.Map.{keys_of}
use Rattle.std.specs.Ordering.{nat_cmp}
use Rattle.std.specs.Prelude.{Result, flat_map, ⊤, ℤ}
use Rattle.journal_reader.proofs.Views.{seen_stops, sorted}
use Rattle.journal_reader.specs.Reads.{Reads, Sorts}
use Rattle.journal_reader.specs.Values.{IsPair, IsValue, are_attrs, of_pair}
use Rattle.journal_reader.specs.declared.unread.Unread.{Unread}
use Rattle.pg_text.specs.declared.failure.Failure.{Failure}
use Rattle.pg_value.proofs.Inverses.{datum_of-value_of, entry_list-entries_of, value_of-datum_of}
use Rattle.pg_value.specs.Attrs.{AreInOrder}
use Rattle.pg_value.specs.Datum.{Datum, items_of, entries_of}
use Rattle.pg_value.specs.Value.{datum_of, entry_of, value_of}
use Rattle.pg_value.specs.declared.value.Value.{Value}
use Rattle.pg_value.specs.declared.value.Value.TheVariants as variant
use Rattle.site_journal.specs.Codes.{IsInt, IsList, IsNumber, IsText, of_bytes, of_int, of_list, of_number, of_truth}
use Rattle.site_journal.specs.Journal.{entry_count, item_count, of_attrs, of_datum, of_entries, of_items, of_value}
use Rattle.site_journal.specs.Reading.{AreAttrs, AreEntries, AreItems, IsDatum}
use Rattle.site_words.specs.Trees.{Each}

-- a value by its byte

abbrev pub value_tag : Value → ℕ
value_tag variant.Null = 0
value_tag (variant.Bool b) = 1
value_tag (variant.Int n) = 2
value_tag (variant.Text t) = 3
value_tag (variant.List ds) = 4
value_tag (variant.Rec es) = 5

abbrev pub value_body : Value → List ℕ
value_body variant.Null = []
value_body (variant.Bool b) = of_truth b
value_body (variant.Int n) = of_int n
value_body (variant.Text t) = of_bytes t
value_body (variant.List ds) = of_number (item_count (items_of ds)) ++ of_items (items_of ds)
value_body (variant.Rec es) = of_attrs es

pub value_text : (v : Value) → of_value v ≡ value_tag v ∷ value_body v
value_text variant.Null = refl
value_text (variant.Bool b) = refl
value_text (variant.Int n) = refl
value_text (variant.Text t) = refl
value_text (variant.List ds) = refl
value_text (variant.Rec es) = refl

pub value_most : (v : Value) → value_tag v ≤ 5
value_most variant.Null = omega arith
value_most (variant.Bool b) = omega arith
value_most (variant.Int n) = omega arith
value_most (variant.Text t) = omega arith
value_most (variant.List ds) = omega arith
value_most (variant.Rec es) = omega arith

pub null_only : (v : Value) → value_tag v ≡ 0 → v ≡ variant.Null
null_only variant.Null e = refl
null_only v e = absurd (omega (arith, e))

pub truth_arm : (v : Value) → IsValue v → value_tag v ≡ 1 → (b : Bool) × ⊤ × (value_body v ≡ of_truth b) × (v ≡ variant.Bool b)
truth_arm (variant.Bool b) is e = (b, tt, refl, refl)
truth_arm v is e = absurd (omega (arith, e))

pub int_arm : (v : Value) → IsValue v → value_tag v ≡ 2 → (n : ℤ) × IsInt n × (value_body v ≡ of_int n) × (v ≡ variant.Int n)
int_arm (variant.Int n) is e = (n, is, refl, refl)
int_arm v is e = absurd (omega (arith, e))

pub text_arm : (v : Value) → IsValue v → value_tag v ≡ 3 → (t : List ℕ) × IsText t × (value_body v ≡ of_bytes t) × (v ≡ variant.Text t)
text_arm (variant.Text t) is e = (t, is, refl, refl)
text_arm v is e = absurd (omega (arith, e))

-- the items of a list

items_counted : (ds : List Datum) → item_count (items_of ds) ≡ length ds
items_counted [] = refl
items_counted (d ∷ ds) = ap (λ n. n + 1) (items_counted ds) ∙ omega arith

length_seen : {A B : Type 0} (f : A → B) (xs : List A) → length (map f xs) ≡ length xs
length_seen f [] = refl
length_seen f (x ∷ xs) = ap suc (length_seen f xs)

values_each : (ds : List Datum) → AreItems (items_of ds) → Each IsValue (map value_of ds)
values_each [] is = tt
values_each (d ∷ ds) is = (subst IsDatum (sym (datum_of-value_of d)) is.0, values_each ds is.1)

values_flat : (ds : List Datum) → of_items (items_of ds) ≡ flat_map of_value (map value_of ds)
values_flat [] = refl
values_flat (d ∷ ds) = ap (λ e. of_datum e ++ of_items (items_of ds)) (sym (datum_of-value_of d)) ∙ ap (λ t. of_value (value_of d) ++ t) (values_flat ds)

values_back : (ds : List Datum) → map datum_of (map value_of ds) ≡ ds
values_back [] = refl
values_back (d ∷ ds) = ap (λ e. e ∷ map datum_of (map value_of ds)) (datum_of-value_of d) ∙ ap (λ es. d ∷ es) (values_back ds)

data_each : (xs : List Value) → Each IsValue xs → AreItems (items_of (map datum_of xs))
data_each [] is = tt
data_each (x ∷ xs) is = (is.0, data_each xs is.1)

data_flat : (xs : List Value) → of_items (items_of (map datum_of xs)) ≡ flat_map of_value xs
data_flat [] = refl
data_flat (x ∷ xs) = ap (λ t. of_value x ++ t) (data_flat xs)

data_count : (xs : List Value) → item_count (items_of (map datum_of xs)) ≡ length xs
data_count xs = items_counted (map datum_of xs) ∙ length_seen datum_of xs

-- a list as a value
abbrev pub as_list : List Value → Value
as_list xs = variant.List (map datum_of xs)

pub list_value_is : (xs : List Value) → IsList IsValue xs → IsValue (as_list xs)
list_value_is xs is = (subst IsNumber (sym (data_count xs)) is.0, data_each xs is.1)

pub list_value_text : (xs : List Value) → of_value (as_list xs) ≡ 4 ∷ of_list of_value xs
list_value_text xs = ap (λ t. 4 ∷ t) (ap (λ n. of_number n ++ of_items (items_of (map datum_of xs))) (data_count xs) ∙ ap (λ t. of_number (length xs) ++ t) (data_flat xs))

pub list_arm : (v : Value) → IsValue v → value_tag v ≡ 4 → (xs : List Value) × IsList IsValue xs × (value_body v ≡ of_list of_value xs) × (v ≡ as_list xs)
list_arm (variant.List ds) is e =
    let count : item_count (items_of ds) ≡ length (map value_of ds) = items_counted ds ∙ sym (length_seen value_of ds) in (
      map value_of ds,
      (subst IsNumber count is.0, values_each ds is.1),
      ap (λ n. of_number n ++ of_items (items_of ds)) count ∙ ap (λ t. of_number (length (map value_of ds)) ++ t) (values_flat ds),
      ap variant.List (sym (values_back ds)),
    )
list_arm v is e = absurd (omega (arith, e))

-- attributes

entries_counted : (es : List (List ℕ × Datum)) → entry_count (entries_of es) ≡ length es
entries_counted [] = refl
entries_counted (e ∷ es) = ap (λ n. n + 1) (entries_counted es) ∙ omega arith

pub rec_value_is : (es : List (List ℕ × Datum)) → AreAttrs es → IsValue (variant.Rec es)
rec_value_is es is = (is.0, subst AreInOrder (sym (entry_list-entries_of es)) is.1, is.2)

pub pairs_back : (es : List (List ℕ × Datum)) → map entry_of (are_attrs es) ≡ es
pairs_back [] = refl
pairs_back (e ∷ es) = ap (λ d. (e.0, d) ∷ map entry_of (are_attrs es)) (datum_of-value_of e.1) ∙ ap (λ fs. e ∷ fs) (pairs_back es)

pub pairs_seen : (xs : List (List ℕ × Value)) → are_attrs (map entry_of xs) ≡ xs
pairs_seen [] = refl
pairs_seen (x ∷ xs) = ap (λ v. (x.0, v) ∷ are_attrs (map entry_of xs)) (value_of-datum_of x.1) ∙ ap (λ ys. x ∷ ys) (pairs_seen xs)

pub pairs_keys : (xs : List (List ℕ × Value)) → keys_of (map entry_of xs) ≡ map (λ (x : List ℕ × Value). x.0) xs
pairs_keys [] = refl
pairs_keys (x ∷ xs) = ap (λ ks. x.0 ∷ ks) (pairs_keys xs)

pairs_each : (es : List (List ℕ × Datum)) → AreEntries (entries_of es) → Each IsPair (are_attrs es)
pairs_each [] is = tt
pairs_each (e ∷ es) is = ((is.0, subst IsDatum (sym (datum_of-value_of e.1)) is.1), pairs_each es is.2)

each_entries : (es : List (List ℕ × Datum)) → Each IsPair (are_attrs es) → AreEntries (entries_of es)
each_entries [] is = tt
each_entries (e ∷ es) is = (is.0.0, subst IsDatum (datum_of-value_of e.1) is.0.1, each_entries es is.1)

pairs_flat : (es : List (List ℕ × Datum)) → of_entries (entries_of es) ≡ flat_map of_pair (are_attrs es)
pairs_flat [] = refl
pairs_flat (e ∷ es) = ap (λ d. of_bytes e.0 ++ of_datum d ++ of_entries (entries_of es)) (sym (datum_of-value_of e.1)) ∙ ap (λ t. of_pair (e.0, value_of e.1) ++ t) (pairs_flat es)

attrs_count : (es : List (List ℕ × Datum)) → entry_count (entries_of es) ≡ length (are_attrs es)
attrs_count es = entries_counted es ∙ sym (length_seen (λ (e : List ℕ × Datum). (e.0, value_of e.1)) es)

pub attrs_text : (es : List (List ℕ × Datum)) → of_attrs es ≡ of_list of_pair (are_attrs es)
attrs_text es = ap (λ n. of_number n ++ of_entries (entries_of es)) (attrs_count es) ∙ ap (λ t. of_number (length (are_attrs es)) ++ t) (pairs_flat es)

abbrev pub KeysRise : List (List ℕ × Value) → Type 0
KeysRise pairs = AreInOrder (map entry_of pairs)

pub attrs_so : (es : List (List ℕ × Datum)) → AreAttrs es → IsList IsPair (are_attrs es) × KeysRise (are_attrs es)
attrs_so es is = ((subst IsNumber (attrs_count es) is.0, pairs_each es is.2), subst AreInOrder (sym (pairs_back es)) is.1)

pub attrs_are : (es : List (List ℕ × Datum)) → IsList IsPair (are_attrs es) → KeysRise (are_attrs es) → AreAttrs es
attrs_are es list rise = (subst IsNumber (sym (attrs_count es)) list.0, subst AreInOrder (pairs_back es) rise, each_entries es list.1)

pub attrs_sorted : {left later : Option (List ℕ)} {room rest before now : ℕ} {pairs : List (List ℕ × Value)} (r : Result (List (List ℕ × Datum)) (Failure Unread)) → Reads (IsList IsPair) (of_list of_pair) left later room rest before now (Ok pairs)
    → Sorts are_attrs KeysRise pairs r → Reads AreAttrs of_attrs left later room rest before now r
attrs_sorted r was sorts = sorted (IsList IsPair) (of_list of_pair) AreAttrs of_attrs are_attrs KeysRise attrs_text attrs_so attrs_are (λ b c e. sym (pairs_back b) ∙ ap (map entry_of) e ∙ pairs_back c) r was sorts

pub attrs_stop : {left later : Option (List ℕ)} {room rest before now : ℕ} {failure : Failure Unread} → Reads (IsList IsPair) (of_list of_pair) left later room rest before now (Err failure) → Reads AreAttrs of_attrs left later room rest before now (Err failure)
attrs_stop was = seen_stops (IsList IsPair) (of_list of_pair) AreAttrs of_attrs are_attrs attrs_text (λ es is. (attrs_so es is).0) was

-- the keys of pairs rise where those of the attributes do
abbrev first_of : List ℕ × Value → List ℕ
first_of pair = pair.0

pub keys_rise : (xs ys : List (List ℕ × Value)) → ys ≡ xs → IsStrictlySortedBy (slice_cmp nat_cmp) (map first_of ys) → KeysRise xs
keys_rise xs ys same rise = subst (IsStrictlySortedBy (slice_cmp nat_cmp)) (sym (pairs_keys xs)) (subst (λ zs. IsStrictlySortedBy (slice_cmp nat_cmp) (map first_of zs)) same rise)

pub rise_keys : (xs ys : List (List ℕ × Value)) → ys ≡ xs → KeysRise xs → IsStrictlySortedBy (slice_cmp nat_cmp) (map first_of ys)
rise_keys xs ys same rise = subst (λ zs. IsStrictlySortedBy (slice_cmp nat_cmp) (map first_of zs)) (sym same) (subst (IsStrictlySortedBy (slice_cmp nat_cmp)) (pairs_keys xs) rise)
