-- The fields of a head, and what they say.
use Rattle.std.specs.Prelude.{ℕ, Bool, List, filter, map, codes, ◌==◌}
use Rattle.std.specs.List.{list_any, slice_split}
use Rattle.std.specs.Str.{bytes_eq, str_eq_ignore_ascii_case, str_to_ascii_lowercase}
use Rattle.httparse.specs.Grammar.{RequestHead, trim_ows}
use Rattle.httparse.specs.Spans.{name_and_value}
use Rattle.http_in.specs.declared.fields.Field.{Field}

-- the field of this name, in lower case, and value
abbrev pub field_of : List ℕ × List ℕ → Field
field_of sent = record { name = str_to_ascii_lowercase sent.0; value = sent.1 }

-- the fields of a head in the order sent; a value has no spaces and tabs at its ends
abbrev pub fields_of : RequestHead → List Field
fields_of head = map field_of (map name_and_value head.fields)

-- the values of the fields with this name, in the order sent
abbrev pub values_of : List ℕ → List Field → List (List ℕ)
values_of name fields = map (λ field. field.value) (filter (λ field. bytes_eq field.name name) fields)

-- whether an item of a value, which commas part, is close, without regard to ASCII case and to spaces and tabs at its ends
abbrev pub has_close : List ℕ → Bool
has_close value = list_any (λ item. str_eq_ignore_ascii_case (trim_ows item) (codes "close")) (slice_split (λ b. b == 44) value)

-- whether a field named Connection has the item close
abbrev pub asks_to_close : List Field → Bool
asks_to_close fields = list_any has_close (values_of (codes "connection") fields)
