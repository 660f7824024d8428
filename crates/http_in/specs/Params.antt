-- The parameters of a request.
use Rattle.std.specs.Prelude.{ℕ, Bool, ◌&&◌, List, [], ◌++◌, map, codes, unwrap_or, ◌==◌, if◌then◌else◌}
use Rattle.std.specs.List.{before_first, list_any}
use Rattle.std.specs.Str.{bytes_eq, str_eq_ignore_ascii_case}
use Rattle.std.specs.Str.Lossy.{utf8_lossy}
use Rattle.form_urlencoded.specs.Form as form
use Rattle.httparse.specs.Grammar.{trim_ows}
use Rattle.http_in.specs.declared.fields.Field.{Field}
use Rattle.http_in.specs.declared.params.Param.{Param}
use Rattle.http_in.specs.Fields.{values_of}
use Rattle.http_in.specs.Target.{query_of}

-- the text of a name or a value: a plus stands for a space, escapes are decoded, and what isn't UTF-8 then is replaced
abbrev pub decoded : List ℕ → List ℕ
decoded bytes = utf8_lossy (form.decode bytes)

-- the parameter of a pair
abbrev pub param_of : List ℕ × List ℕ → Param
param_of pair = record { name = decoded pair.0; value = decoded pair.1 }

-- the parameters in a query or a form, in their order
unfoldable pub params_in : List ℕ → List Param
params_in text = map param_of (form.raw_pairs text)

-- whether the media type of a Content-Type, which stands before the first semicolon, is that of a form
abbrev pub is_form_type : List ℕ → Bool
is_form_type value = str_eq_ignore_ascii_case (trim_ows (before_first (λ b. b == 59) value)) (codes "application/x-www-form-urlencoded")

-- whether a request of this method and fields has a form for its body
abbrev pub has_form : List ℕ → List Field → Bool
has_form method fields = bytes_eq method (codes "POST") && list_any is_form_type (values_of (codes "content-type") fields)

-- the parameters of a request: the query's, and then those of the body where it is a form
abbrev pub params_of : List ℕ → List ℕ → List Field → List ℕ → List Param
params_of method target fields body = params_in (unwrap_or (query_of target) []) ++ (if has_form method fields then params_in body else [])
