-- Addresses: their params, `c:url`, `c:redirect`, and what `c:import` may name.
use Rattle.std.specs.Prelude.{ℕ, ◌==◌, ◌||◌, Bool, List, [], ◌∷◌, ◌++◌, codes, length, nat_lt, Option, Some, None, Result, Ok, if◌then◌else◌}
use Rattle.std.specs.List.{list_any}
use Rattle.el_coercion.specs.Text.{made}
use Rattle.form_urlencoded.specs.Form.{byte_serialize}
use Rattle.http_in.specs.Target.{is_mark}
use Rattle.http_in.specs.declared.params.Param.{Param}
use Rattle.jstl_functions.specs.Functions.{and_then}
use Rattle.jstl_functions.specs.Texts.{contains_part}
use Rattle.pg_text.specs.declared.place.Place.{Place}
use Rattle.pg_value.specs.Datum.{Datum, text}
use Rattle.pg_value.specs.declared.fault.RunFault.{RunFault}
use Rattle.pg_value.specs.declared.fault.RunFault.TheVariants as fault
use Rattle.page_meaning.specs.Attributes.{Values, Coercion, coercion_in, evaluated_names, table_of, value_at, text_in, text_at}
use Rattle.page_meaning.specs.Bodies.{put_text, keeping}
use Rattle.page_meaning.specs.Coercions.{param_coercions}
use Rattle.page_meaning.specs.Core.{given_or_body}
use Rattle.page_meaning.specs.Page.{Attributes, Variable}
use Rattle.page_meaning.specs.State.{State}
use Rattle.page_meaning.specs.Variables.{assign_variable}
use Rattle.page_meaning.specs.Went.{Did, Went, Well, Raised, Ended, redirects, then_do, either, result_of}
use Rattle.out_buffer.specs.Writer.{has_committed}

-- what joins a param to a text: `&` where the text has a `?`
abbrev pub param_mark : List ℕ → List ℕ
param_mark t = if list_any is_mark t then codes "&" else codes "?"

-- a text with a param behind it, measured; one with an empty name does nothing
abbrev pub with_param : List ℕ → Param → Result (List ℕ) RunFault
with_param t p =
    if length p.name == 0 then Ok t
    else made (t ++ param_mark t ++ byte_serialize p.name ++ codes "=" ++ byte_serialize p.value)

-- a text with its params
abbrev pub url_with : List ℕ → List Param → Result (List ℕ) RunFault
url_with t [] = Ok t
url_with t (p ∷ rest) = and_then (with_param t p) (λ u. url_with u rest)

-- the url of a tag with its params, evaluated in this order
abbrev pub url_text : Place → List ℕ → (State → Went (List Param)) → State → Went (List ℕ)
url_text place address params s = then_do (params s) (λ ps s1. result_of place (url_with address ps) s1)

-- the name and the value of a param: its value, or else its trimmed body
abbrev pub param_pair : Place → Values → (body : State → Did) → State → Went Param
param_pair place vs body s = then_do (given_or_body place (value_at (codes "value") vs) body s) (λ d s1. Well (record { name = text_at (codes "name") vs; value = text_in (Some d) }) s1)

-- the same behind its attributes
abbrev pub with_pair : Attributes → (values : (List ℕ → Coercion) → State → Went (List Datum)) → Place → (body : State → Did) → State → Went Param
with_pair attributes values place body s =
    then_do (values (coercion_in param_coercions) s) (λ ds s1. param_pair place (table_of (evaluated_names (coercion_in param_coercions) attributes) ds) body s1)

-- a param before the others
abbrev pub and_params : (State → Went Param) → (State → Went (List Param)) → State → Went (List Param)
and_params one others s = then_do (one s) (λ p s1. then_do (others s1) (λ ps s2. Well (p ∷ ps) s2))

-- X15 of a url with `://`; no param brings one in, since params are encoded
abbrev pub local_url : Place → List ℕ → (State → Did) → State → Did
local_url place address go s = either (contains_part (codes "://") address) (Raised fault.BadUrl place) go s

-- what a part writes, or its text in a variable where one is given
abbrev pub written_or_kept : Place → Option Variable → (State → Did) → State → Did
written_or_kept place None part s = part s
written_or_kept place (Some x) part s = then_do (keeping place part s) (λ t s1. assign_variable place x (text t) s1)

-- `c:url`
abbrev pub url_mean : Place → Option Variable → (url : List ℕ) → State → Did
url_mean place None url s = put_text place url s
url_mean place (Some x) url s = assign_variable place x (text url) s

-- a byte that no location has
abbrev pub is_control : ℕ → Bool
is_control b = nat_lt b 32 || (b == 127)

-- `c:redirect`: X9 where something was committed, X15 of a location with a control byte
abbrev pub redirect_mean : Place → (url : List ℕ) → State → Did
redirect_mean place url s = either (has_committed s.writer) (Raised fault.Committed place) (either (list_any is_control url) (Raised fault.BadUrl place) (Ended (redirects url))) s
