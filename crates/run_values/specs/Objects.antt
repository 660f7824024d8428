-- The objects of a request's fields, and its cookies.
use Rattle.std.specs.Prelude.{ℕ, List, [], flat_map, Option, Some, None, Result, Ok}
use Rattle.std.specs.List.{slice_split}
use Rattle.std.specs.Str.{str_to_ascii_lowercase}
use Rattle.el_coercion.specs.Text.{text_of}
use Rattle.el_ops.specs.Indexing.{or_null}
use Rattle.http_in.specs.declared.params.Param.{Param}
use Rattle.http_in.specs.declared.request.Request.{Request}
use Rattle.httparse.specs.Grammar.{trim_ows}
use Rattle.jstl_functions.specs.Functions.{and_then}
use Rattle.page_code.specs.declared.operands.HeaderObject.{HeaderObject}
use Rattle.page_code.specs.declared.operands.HeaderObject.TheVariants as header
use Rattle.page_meaning.specs.Request.{first_values, all_values, cookie_in, header_texts, is_semicolon}
use Rattle.pg_value.specs.Attrs.{entry_at}
use Rattle.pg_value.specs.Datum.{Datum, null}
use Rattle.pg_value.specs.declared.fault.RunFault.{RunFault}
use Rattle.scopes.specs.Scopes.{Entries}

-- the entries of an object of the fields
abbrev pub header_entries : Request → HeaderObject → Entries
header_entries request header.Header = first_values (header_texts request)
header_entries request header.HeaderValues = all_values (header_texts request)

-- its entry under a value, in lower case; null under null
abbrev pub header_answer : Request → HeaderObject → Datum → Result Datum RunFault
header_answer request which null = Ok null
header_answer request which d = and_then (text_of d) (λ key. Ok (or_null (entry_at (str_to_ascii_lowercase key) (header_entries request which))))

-- the pieces of what stands behind a semicolon, where there is one
abbrev pub pieces_behind : Option (List ℕ) → List (List ℕ)
pieces_behind None = []
pieces_behind (Some t) = slice_split is_semicolon t

-- the cookies in a text, of its pieces between semicolons
abbrev pub cookies_between : List ℕ → List Param
cookies_between value = flat_map (λ piece. cookie_in (trim_ows piece)) (slice_split is_semicolon value)
