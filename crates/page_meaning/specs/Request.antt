-- What a page sees of its request, as values.
use Rattle.std.specs.Prelude.{ℕ, ◌==◌, Bool, List, [], ◌∷◌, codes, map, length, flat_map, Option, Some, None, if◌then◌else◌}
use Rattle.std.specs.List.{before_first, after_first, list_any, slice_split}
use Rattle.std.specs.Str.Lossy.{utf8_lossy}
use Rattle.http_in.specs.Fields.{values_of}
use Rattle.http_in.specs.Target.{before_query}
use Rattle.http_in.specs.declared.fields.Field.{Field}
use Rattle.http_in.specs.declared.params.Param.{Param}
use Rattle.http_in.specs.declared.request.Request.{Request}
use Rattle.httparse.specs.Grammar.{trim_ows}
use Rattle.pg_value.specs.Attrs.{entry_at, of_first_entries, with_entry}
use Rattle.pg_value.specs.Datum.{Datum, null, text, list, rec, Items, no_items, item, no_entries, entry}
use Rattle.scopes.specs.Scopes.{Entries}

-- a parameter as an entry
abbrev pub param_entry : Param → List ℕ × Datum
param_entry p = (p.name, text p.value)

-- each name with the first of its values
abbrev pub first_values : List Param → Entries
first_values params = of_first_entries (map param_entry params)

-- the items of what stands under a name
abbrev pub items_under : Option Datum → Items
items_under (Some (list items)) = items
items_under other = no_items

-- each name with the list of its values
abbrev pub all_values : List Param → Entries
all_values [] = []
all_values (p ∷ rest) = with_entry (all_values rest) p.name (list (item (text p.value) (items_under (entry_at p.name (all_values rest)))))

-- a field as a parameter, in whose value bytes that aren't UTF-8 are replaced
abbrev pub header_text : Field → Param
header_text field = record { name = field.name; value = utf8_lossy field.value }

-- the fields of a request, with their values as texts
abbrev pub header_texts : Request → List Param
header_texts request = map header_text request.fields

-- the byte `;`
abbrev pub is_semicolon : ℕ → Bool
is_semicolon b = b == 59

-- the byte `=`
abbrev pub is_equals_sign : ℕ → Bool
is_equals_sign b = b == 61

-- the name and the value on the sides of the first `=` of a piece, where it has one and a name before it
abbrev pub cookie_in : List ℕ → List Param
cookie_in piece =
    if list_any is_equals_sign piece then (if length (before_first is_equals_sign piece) == 0 then []
    else record { name = before_first is_equals_sign piece; value = after_first is_equals_sign piece } ∷ [])
    else []

-- the cookies of a field: of its pieces between semicolons, without the blanks at their ends
abbrev pub cookies_in : List ℕ → List Param
cookies_in value = flat_map (λ piece. cookie_in (trim_ows piece)) (slice_split is_semicolon (utf8_lossy value))

-- the cookies of a request in the order sent
abbrev pub cookies : Request → List Param
cookies request = flat_map cookies_in (values_of (codes "cookie") request.fields)

-- a cookie as an entry: the record of its name and its value
abbrev pub cookie_entry : Param → List ℕ × Datum
cookie_entry p = (p.name, rec (entry (codes "name") (text p.name) (entry (codes "value") (text p.value) no_entries)))

-- each cookie's name with the record of the first of that name
abbrev pub cookie_records : Request → Entries
cookie_records request = of_first_entries (map cookie_entry (cookies request))

-- a text that may be absent, as null
abbrev pub text_or_null : Option (List ℕ) → Datum
text_or_null None = null
text_or_null (Some t) = text t

-- the request as a record
abbrev pub request_record : Request → Datum
request_record request =
    rec (entry (codes "contextPath") (text []) (entry (codes "method") (text request.method) (entry (codes "queryString") (text_or_null request.query)
    (entry (codes "requestURI") (text (before_query request.target)) no_entries))))
