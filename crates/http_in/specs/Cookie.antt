-- The session that a request names by its cookie.
use Rattle.std.specs.Prelude.{ℕ, Bool, ◌&&◌, ◌||◌, List, [], ◌∷◌, length, drop, map, codes, Option, Some, None, nat_eq, ◌==◌, if◌then◌else◌}
use Rattle.std.specs.Int.{is_in_range}
use Rattle.std.specs.List.{find, list_all, slice_split, starts_with}
use Rattle.std.specs.Option.{option_map}
use Rattle.httparse.specs.Grammar.{trim_ows}
use Rattle.http_in.specs.declared.fields.Field.{Field}
use Rattle.http_in.specs.declared.limits.TheConstants.{SESSION_ID_BYTES}
use Rattle.http_in.specs.Fields.{values_of}

-- the name of the session's cookie and the equals sign behind it
abbrev pub session_name : List ℕ
session_name = codes "JSESSIONID="

-- whether a piece of a Cookie field is the session's cookie: without spaces and tabs at its ends it begins with that name
abbrev pub is_session : List ℕ → Bool
is_session piece = starts_with nat_eq (trim_ows piece) session_name

-- the value of the first such piece of a field, which semicolons part
abbrev pub session_in : List ℕ → Option (List ℕ)
session_in value = option_map (λ piece. drop 11 (trim_ows piece)) (find is_session (slice_split (λ b. b == 59) value))

-- the first that is there
abbrev pub first_some : List (Option (List ℕ)) → Option (List ℕ)
first_some [] = None
first_some (None ∷ others) = first_some others
first_some (Some value ∷ others) = Some value

-- whether a value can be the id of a session: 48 hexadecimal digits in lower case
abbrev pub can_be_id : List ℕ → Bool
can_be_id value = (length value == SESSION_ID_BYTES) && list_all (λ b. is_in_range 48 57 b || is_in_range 97 102 b) value

-- the value, where it can be an id
abbrev pub id_or_none : Option (List ℕ) → List ℕ
id_or_none None = []
id_or_none (Some value) = if can_be_id value then value else []

-- the id that the first of the session's cookies in the Cookie fields has, or no bytes
abbrev pub session_of : List Field → List ℕ
session_of fields = id_or_none (first_some (map session_in (values_of (codes "cookie") fields)))
