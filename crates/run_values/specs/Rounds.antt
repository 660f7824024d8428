-- What the rounds of a loop go over, in the words of the meaning.
use Rattle.std.specs.Prelude.{◌≡◌, ℕ, ◌==◌, pos, ◌^◌, Bool, false, List, [], ◌∷◌, map, Option, Some, None, Result, Ok, codes, ⊤}
use Rattle.el_ops.specs.Indexing.{or_null}
use Rattle.jstl_functions.specs.Functions.{measured}
use Rattle.jstl_functions.specs.Texts.{tokens}
use Rattle.page_code.specs.declared.operands.Over.{Over}
use Rattle.page_code.specs.declared.operands.Over.TheVariants as over
use Rattle.run_values.specs.declared.rounds.Items.{Items}
use Rattle.run_values.specs.declared.rounds.Mark.{Mark}
use Rattle.run_values.specs.declared.rounds.Items.TheVariants as items
use Rattle.page_meaning.specs.Attributes.{Values, text_at, value_at}
use Rattle.page_meaning.specs.Rounds.{Round, entry_items, given_items, token_items}
use Rattle.pg_value.specs.Datum.{Datum, null, entries_of, entry, no_entries, number, rec, text, truth}
use Rattle.pg_value.specs.declared.fault.RunFault.{RunFault}

-- the items, where there are items
abbrev pub items_of : Items → Option (List (Result Datum RunFault))
items_of items.Numbers = None
items_of (items.Values values) = Some (map Ok values)
items_of (items.Entries entries) = Some (entry_items (entries_of entries))
items_of (items.Texts texts) = Some (token_items texts)

-- an entry as an item: the record of its key and its value
abbrev pub entry_item : List ℕ × Datum → Result Datum RunFault
entry_item e = measured (rec (entry (codes "key") (text e.0) (entry (codes "value") e.1 no_entries)))

-- below which number the places stop: numbers are values
abbrev pub stop_limit : Items → ℕ
stop_limit items.Numbers = 2 ^ 63
stop_limit (items.Values values) = 2 ^ 64
stop_limit (items.Entries entries) = 2 ^ 64
stop_limit (items.Texts texts) = 2 ^ 64

-- rounds without the next one
abbrev pub behind_round : List Round → List Round
behind_round [] = []
behind_round (r ∷ rest) = rest

-- a round of these numbers, for words that don't look at its item
abbrev pub round_at : Mark → Round
round_at mark = record { item = Ok null; index = mark.index; count = mark.count; is_last = mark.is_last }

-- the entries of a round's status
abbrev pub status_entries : Values → Round → Datum → Values
status_entries vs r current =
    (codes "begin", or_null (value_at (codes "begin") vs)) ∷ (codes "count", number (pos r.count)) ∷ (codes "current", current) ∷ (codes "end", or_null (value_at (codes "end") vs))
    ∷ (codes "first", truth (r.count == 1)) ∷ (codes "index", number (pos r.index)) ∷ (codes "last", truth r.is_last) ∷ (codes "step", or_null (value_at (codes "step") vs)) ∷ []

-- no round: its numbers are 0
abbrev pub no_round : Round
no_round = record { item = Ok null; index = 0; count = 0; is_last = false }

-- these are the entries of a status of a loop with these values, whatever its round is
pub record IsStatusOf (vs es : Values) : Type 0 where
  pub round : Round
  pub current : Datum
  pub is : es ≡ status_entries vs round current

-- the same where there are entries
abbrev pub IfStatusOf : Values → Option Values → Type 0
IfStatusOf vs None = ⊤
IfStatusOf vs (Some es) = IsStatusOf vs es

-- what the rounds of a loop go over, by its values: X7
abbrev pub items_answer : Over → Values → Result (Option (List (Result Datum RunFault))) RunFault
items_answer over.Numbers vs = Ok None
items_answer over.Items vs = given_items (value_at (codes "items") vs)
items_answer over.Tokens vs = Ok (Some (token_items (tokens (text_at (codes "delims") vs) (text_at (codes "items") vs))))
