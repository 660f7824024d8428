-- Each name with the list of its values, for proofs alone.
use Rattle.std.specs.Prelude.{◌≡◌, ℕ, zero, suc, List, [], ◌∷◌, ◌++◌, if◌then◌else◌}
use Rattle.std.specs.List.{AllByRecursion}
use Rattle.std.specs.Str.{bytes_eq}
use Rattle.page_meaning.specs.Request.{items_under}
use Rattle.pg_value.specs.Attrs.{entry_at, with_entry}
use Rattle.pg_value.specs.Datum.{item, items_of, item_list, list}
use Rattle.pg_value.specs.declared.value.Value.{Value}
use Rattle.scopes.specs.Scopes.{Entries}

-- each name with the list of its values: entries from the last to the first
abbrev pub lists_by_name : Entries → Entries
lists_by_name [] = []
lists_by_name (e ∷ rest) = with_entry (lists_by_name rest) e.0 (list (item e.1 (items_under (entry_at e.0 (lists_by_name rest)))))

-- lists with the values of more entries behind theirs
abbrev pub appended : Entries → Entries → Entries
appended es [] = es
appended es (e ∷ rest) = appended (with_entry es e.0 (list (items_of (item_list (items_under (entry_at e.0 es)) ++ e.1 ∷ [])))) rest

-- how many of the first entries have a name
abbrev pub first_named : List ℕ → Entries → ℕ
first_named k [] = zero
first_named k (e ∷ es) = if bytes_eq k e.0 then suc (first_named k es) else zero

-- entries cut behind the first that have a name
abbrev pub IsSplitByName : List ℕ → (run rest entries : List (List ℕ × Value)) → Type 0
IsSplitByName k run rest entries = AllByRecursion (λ e. e.0 ≡ k) run × (entries ≡ run ++ rest)
