-- The rounds of a loop.
use Rattle.std.specs.Prelude.{ℕ, zero, suc, ◌+◌, ◌-◌, ◌/◌, ◌==◌, ℤ, pos, negsuc, min, Bool, List, [], ◌∷◌, codes, length, map, nat_lt, Option, Some, None, Result, Ok, Err, if◌then◌else◌}
use Rattle.std.specs.List.{slice_get}
use Rattle.el_ops.specs.Indexing.{or_null}
use Rattle.jstl_functions.specs.Functions.{and_then, measured}
use Rattle.jstl_functions.specs.Texts.{tokens}
use Rattle.pg_value.specs.Datum.{Datum, null, truth, number, text, list, rec, Entries, no_entries, entry, item_list}
use Rattle.pg_value.specs.declared.fault.RunFault.{RunFault}
use Rattle.pg_value.specs.declared.fault.RunFault.TheVariants as fault
use Rattle.page_meaning.specs.Attributes.{Values, value_at}

-- a round: its item, its place (the number itself without items), its count from 1, and whether it is the last; the item may be
-- an X20
pub record Round : Type 0 where
  pub item : Result Datum RunFault
  pub index : ℕ
  pub count : ℕ
  pub is_last : Bool

-- the entries of a record as items, each the record of its key and its value
abbrev pub entry_items : Entries → List (Result Datum RunFault)
entry_items no_entries = []
entry_items (entry key d rest) = measured (rec (entry (codes "key") (text key) (entry (codes "value") d no_entries))) ∷ entry_items rest

-- the items of a value: of a list, of a record its entries, of a text its tokens at commas, of null none; else X7
abbrev pub items_in : Datum → Result (List (Result Datum RunFault)) RunFault
items_in null = Ok []
items_in (list items) = Ok (map Ok (item_list items))
items_in (rec entries) = Ok (entry_items entries)
items_in (text t) = Ok (map (λ token. Ok (text token)) (tokens (codes ",") t))
items_in other = Err fault.NotIterable

-- so many rounds from a place on
abbrev pub rounds_from : (item : ℕ → Result Datum RunFault) → (step count : ℕ) → (rounds at : ℕ) → List Round
rounds_from item step count zero at = []
rounds_from item step count (suc n) at = record { item = item at; index = at; count = count; is_last = n == 0 } ∷ rounds_from item step (count + 1) n (at + step)

-- how many places there are from begin on, step apart, below stop
abbrev pub rounds_below : (begin step stop : ℕ) → ℕ
rounds_below begin step stop = if nat_lt begin stop then (stop - begin - 1) / step + 1 else 0

-- the number behind an end, which is 0 of an end below 0
abbrev pub behind_end : ℤ → ℕ
behind_end (pos n) = n + 1
behind_end (negsuc n) = 0

-- the number under a name
abbrev pub number_in : Option Datum → Option ℤ
number_in (Some (number n)) = Some n
number_in other = None

-- where the places stop: behind the end, and behind the last of so many items
abbrev pub stop_at : Option ℤ → Option ℕ → ℕ
stop_at (Some end) (Some len) = min (behind_end end) len
stop_at (Some end) None = behind_end end
stop_at None (Some len) = len
stop_at None None = 0

-- the item at a place: of the items, or the number of the place
abbrev pub item_at : Option (List (Result Datum RunFault)) → ℕ → Result Datum RunFault
item_at (Some items) at = found (slice_get items at)
  where
    found : Option (Result Datum RunFault) → Result Datum RunFault
    found (Some item) = item
    found None = Ok null
item_at None at = Ok (number (pos at))

-- how many items there are, where there are items
abbrev pub item_count : Option (List (Result Datum RunFault)) → Option ℕ
item_count (Some items) = Some (length items)
item_count None = None

-- a begin of at least 0, 0 where none is given
abbrev pub good_begin : Option ℤ → Option ℕ
good_begin None = Some 0
good_begin (Some (pos n)) = Some n
good_begin (Some (negsuc n)) = None

-- a step of at least 1, 1 where none is given
abbrev pub good_step : Option ℤ → Option ℕ
good_step None = Some 1
good_step (Some (pos (suc n))) = Some (suc n)
good_step (Some other) = None

-- the rounds of a good begin and a good step; else X8
abbrev pub rounds_by : Option (List (Result Datum RunFault)) → Option ℤ → Option ℕ → Option ℕ → Result (List Round) RunFault
rounds_by items end (Some begin) (Some step) = Ok (rounds_from (item_at items) step 1 (rounds_below begin step (stop_at end (item_count items))) begin)
rounds_by items end begin step = Err fault.BadLoop

-- the rounds over items, or over the numbers, by the values of `begin`, `end` and `step`
abbrev pub rounds_of : Option (List (Result Datum RunFault)) → Values → Result (List Round) RunFault
rounds_of items vs =
    rounds_by items (number_in (value_at (codes "end") vs)) (good_begin (number_in (value_at (codes "begin") vs))) (good_step (number_in (value_at (codes "step") vs)))

-- the status of a round, as a record
abbrev pub status_record : Values → Round → Datum → Datum
status_record vs r current =
    rec (entry (codes "begin") (or_null (value_at (codes "begin") vs)) (entry (codes "count") (number (pos r.count)) (entry (codes "current") current
    (entry (codes "end") (or_null (value_at (codes "end") vs)) (entry (codes "first") (truth (r.count == 1)) (entry (codes "index") (number (pos r.index))
    (entry (codes "last") (truth r.is_last) (entry (codes "step") (or_null (value_at (codes "step") vs)) no_entries))))))))

-- the items of a loop, where they were given
abbrev pub given_items : Option Datum → Result (Option (List (Result Datum RunFault))) RunFault
given_items None = Ok None
given_items (Some d) = and_then (items_in d) (λ items. Ok (Some items))

-- the tokens of two texts as items
abbrev pub token_items : List (List ℕ) → List (Result Datum RunFault)
token_items [] = []
token_items (t ∷ rest) = Ok (text t) ∷ token_items rest
