-- The texts of values stand apart.
use Rattle.std.proofs.Common.{◌≡◌, ℕ, List, [], ◌∷◌, ◌++◌, refl, sym, ap, ◌∙◌, append_assoc, arith}
use Rattle.pg_value.specs.Datum.{Datum, null, truth, number, text, list, rec, Items, no_items, item, Entries, no_entries, entry, entries_of, entry_list, items_of, item_list}
use Rattle.site_journal.proofs.Apart.{int_apart, number_apart, tail_same, text_apart, truth_apart}
use Rattle.site_journal.specs.Codes.{of_bytes, of_int, of_number, of_truth}
use Rattle.site_journal.specs.Journal.{entry_count, item_count, of_attrs, of_datum, of_entries, of_items}
use Rattle.site_journal.specs.Reading.{AreAttrs, AreEntries, AreItems, IsDatum, StandsApart}

mutual
  pub datum_apart : StandsApart IsDatum of_datum
  datum_apart null null s t is also e = (refl, tail_same 0 0 s t e)
  datum_apart (truth a) (truth b) s t is also e =
      let both = truth_apart a b s t tt tt (tail_same 1 1 (of_truth a ++ s) (of_truth b ++ t) e) in
      (ap truth both.0, both.1)
  datum_apart (number a) (number b) s t is also e =
      let both = int_apart a b s t is also (tail_same 2 2 (of_int a ++ s) (of_int b ++ t) e) in
      (ap number both.0, both.1)
  datum_apart (text a) (text b) s t is also e =
      let both = text_apart a b s t is also (tail_same 3 3 (of_bytes a ++ s) (of_bytes b ++ t) e) in
      (ap text both.0, both.1)
  datum_apart (list a) (list b) s t is also e =
      let counts = number_apart (item_count a) (item_count b) (of_items a ++ s) (of_items b ++ t) is.0 also.0
      (sym (append_assoc (of_number (item_count a)) (of_items a) s) ∙ tail_same 4 4 ((of_number (item_count a) ++ of_items a) ++ s) ((of_number (item_count b) ++ of_items b) ++ t) e
      ∙ append_assoc (of_number (item_count b)) (of_items b) t) in
      let both = data_apart a b s t counts.0 is.1 also.1 counts.1 in
      (ap list both.0, both.1)
  datum_apart (rec a) (rec b) s t is also e =
      let counts = number_apart (entry_count a) (entry_count b) (of_entries a ++ s) (of_entries b ++ t) is.0 also.0
      (sym (append_assoc (of_number (entry_count a)) (of_entries a) s) ∙ tail_same 5 5 ((of_number (entry_count a) ++ of_entries a) ++ s) ((of_number (entry_count b) ++ of_entries b) ++ t) e
      ∙ append_assoc (of_number (entry_count b)) (of_entries b) t) in
      let both = entries_apart a b s t counts.0 is.2 also.2 counts.1 in
      (ap rec both.0, both.1)
  datum_apart a b s t is also e = absurd (cc)

  data_apart : (a b : Items) (s t : List ℕ) → item_count a ≡ item_count b → AreItems a → AreItems b → of_items a ++ s ≡ of_items b ++ t → (a ≡ b) × (s ≡ t)
  data_apart no_items no_items s t same is also e = (refl, e)
  data_apart no_items (item d ds) s t same is also e = absurd (omega (arith, same))
  data_apart (item c cs) no_items s t same is also e = absurd (omega (arith, same))
  data_apart (item c cs) (item d ds) s t same is also e =
      let one = datum_apart c d (of_items cs ++ s) (of_items ds ++ t) is.0 also.0 (sym (append_assoc (of_datum c) (of_items cs) s) ∙ e ∙ append_assoc (of_datum d) (of_items ds) t) in
      let rest = data_apart cs ds s t (omega (arith, same)) is.1 also.1 one.1 in
      (ap (λ x. item x cs) one.0 ∙ ap (λ xs. item d xs) rest.0, rest.1)

  pub entries_apart : (a b : Entries) (s t : List ℕ) → entry_count a ≡ entry_count b → AreEntries a → AreEntries b → of_entries a ++ s ≡ of_entries b ++ t → (a ≡ b) × (s ≡ t)
  entries_apart no_entries no_entries s t same is also e = (refl, e)
  entries_apart no_entries (entry l d ds) s t same is also e = absurd (omega (arith, same))
  entries_apart (entry k c cs) no_entries s t same is also e = absurd (omega (arith, same))
  entries_apart (entry k c cs) (entry l d ds) s t same is also e =
      let key = text_apart k l (of_datum c ++ (of_entries cs ++ s)) (of_datum d ++ (of_entries ds ++ t)) is.0 also.0 (sym (spread k c cs s) ∙ e ∙ spread l d ds t) in
      let one = datum_apart c d (of_entries cs ++ s) (of_entries ds ++ t) is.1 also.1 key.1 in
      let rest = entries_apart cs ds s t (omega (arith, same)) is.2 also.2 one.1 in
      (ap (λ x. entry x c cs) key.0 ∙ ap (λ x. entry l x cs) one.0 ∙ ap (λ xs. entry l d xs) rest.0, rest.1)
    where
      spread : (key : List ℕ) (d : Datum) (es : Entries) (s : List ℕ) → ((of_bytes key ++ of_datum d) ++ of_entries es) ++ s ≡ of_bytes key ++ (of_datum d ++ (of_entries es ++ s))
      spread key d es s = append_assoc (of_bytes key ++ of_datum d) (of_entries es) s ∙ append_assoc (of_bytes key) (of_datum d) (of_entries es ++ s)

pub back : (attrs : List (List ℕ × Datum)) → entry_list (entries_of attrs) ≡ attrs
back [] = refl
back (e ∷ es) = ap (λ xs. e ∷ xs) (back es)

pub attrs_apart : StandsApart AreAttrs of_attrs
attrs_apart a b s t is also e =
    let counts = number_apart (entry_count (entries_of a)) (entry_count (entries_of b)) (of_entries (entries_of a) ++ s) (of_entries (entries_of b) ++ t) is.0 also.0
    (sym (append_assoc (of_number (entry_count (entries_of a))) (of_entries (entries_of a)) s) ∙ e ∙ append_assoc (of_number (entry_count (entries_of b))) (of_entries (entries_of b)) t) in
    let both = entries_apart (entries_of a) (entries_of b) s t counts.0 is.2 also.2 counts.1 in
    (sym (back a) ∙ ap entry_list both.0 ∙ back b, both.1)

pub items_back : (ds : List Datum) → item_list (items_of ds) ≡ ds
items_back [] = refl
items_back (d ∷ ds) = ap (λ xs. d ∷ xs) (items_back ds)
