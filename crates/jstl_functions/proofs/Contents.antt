-- What is said of lists and records, in the words of their items and entries.
use Rattle.std.proofs.Common.{◌≡◌, ℕ, pos, List, length, Ok, ap}
use Rattle.pg_value.proofs.Inverses.{item_list-items_of, entry_list-entries_of}
use Rattle.pg_value.specs.Datum.{Datum, number, text, list, rec, items_of, entries_of}
use Rattle.el_coercion.specs.Text.{text_of}
use Rattle.jstl_functions.specs.Functions.{and_then, join_of, length_of, texts_of}
use Rattle.jstl_functions.specs.Texts.{joined}

pub length_of-list : (ds : List Datum) → length_of (list (items_of ds)) ≡ Ok (number (pos (length ds)))
length_of-list ds = ap (λ items. Ok (number (pos (length items)))) (item_list-items_of ds)

pub length_of-rec : (es : List (List ℕ × Datum)) → length_of (rec (entries_of es)) ≡ Ok (number (pos (length es)))
length_of-rec es = ap (λ entries. Ok (number (pos (length entries)))) (entry_list-entries_of es)

pub join_of-list : (ds : List Datum) (b : Datum) → join_of (list (items_of ds)) b ≡ and_then (texts_of ds) (λ ts. and_then (text_of b) (λ between. Ok (text (joined between ts))))
join_of-list ds b = ap (λ items. and_then (texts_of items) (λ ts. and_then (text_of b) (λ between. Ok (text (joined between ts))))) (item_list-items_of ds)

pub ruleset contents = (length_of-list, length_of-rec, join_of-list)
