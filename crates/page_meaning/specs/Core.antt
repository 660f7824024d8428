-- What the core tags do with the values of their attributes; `body` is what their body does.
use Rattle.std.specs.Prelude.{ℕ, Bool, true, false, List, codes, nat_le, Option, Some, None, Result, Err, if◌then◌else◌}
use Rattle.jstl_functions.specs.Functions.{and_then, measured}
use Rattle.jstl_functions.specs.Texts.{tokens}
use Rattle.pg_text.specs.Escape.{escaped}
use Rattle.pg_text.specs.declared.place.Place.{Place}
use Rattle.pg_value.specs.Attrs.{with_entry, without_entry}
use Rattle.pg_value.specs.Datum.{Datum, null, truth, rec, entry_list, entries_of}
use Rattle.pg_value.specs.RunFault.{number_of}
use Rattle.pg_value.specs.declared.fault.RunFault.{RunFault}
use Rattle.pg_value.specs.declared.fault.RunFault.TheVariants as fault
use Rattle.scopes.specs.Scopes.{Entries}
use Rattle.page_meaning.specs.Attributes.{Values, value_at, text_in, text_at, truth_or}
use Rattle.page_meaning.specs.Bodies.{put_text, keeping, kept_value, trimmed}
use Rattle.page_meaning.specs.Faults.{fault_record}
use Rattle.page_meaning.specs.Loops.{with_named, without_named, loop_mean}
use Rattle.page_meaning.specs.Page.{Variable}
use Rattle.page_meaning.specs.Rounds.{given_items, rounds_of, token_items}
use Rattle.page_meaning.specs.State.{State, in_writer}
use Rattle.page_meaning.specs.Variables.{assign, assign_variable, unassign_in, look_up}
use Rattle.page_meaning.specs.Went.{Did, Went, Well, Raised, Ended, Awaits, then_do, either, result_of}
use Rattle.out_buffer.specs.Writer.{with_bodies}

-- the text that a body writes, trimmed
abbrev pub trimmed_body : Place → (State → Did) → State → Went (List ℕ)
trimmed_body place body s = then_do (keeping place body s) (λ t s1. Well (trimmed t) s1)

-- the text that was given, or else what the other part gives: where none was given, or null
abbrev pub text_or : Option Datum → (State → Went (List ℕ)) → State → Went (List ℕ)
text_or None other s = other s
text_or (Some null) other s = other s
text_or (Some d) other s = Well (text_in (Some d)) s

-- `c:out`: the value's text; where that is null the default, or else the trimmed body
abbrev pub out_text : Place → Values → (body : State → Did) → State → Went (List ℕ)
out_text place vs body s = text_or (value_at (codes "value") vs) (text_or (value_at (codes "default") vs) (trimmed_body place body)) s

-- a text, escaped where that is asked
abbrev pub escaped_if : Bool → List ℕ → List ℕ
escaped_if true t = escaped t
escaped_if false t = t

-- `c:out` writes its text, escaped unless `escapeXml` is false
abbrev pub out_mean : Place → Values → (body : State → Did) → State → Did
out_mean place vs body s = then_do (out_text place vs body s) (λ t s1. put_text place (escaped_if (truth_or true (value_at (codes "escapeXml") vs)) t) s1)

-- the value that was given, or else the trimmed body
abbrev pub given_or_body : Place → Option Datum → (body : State → Did) → State → Went Datum
given_or_body place (Some d) body s = Well d s
given_or_body place None body s = kept_value place body s

-- a variable is set; null removes it, in all scopes where none is given
abbrev pub set_or_remove : Place → Variable → Datum → State → Did
set_or_remove place x null s = unassign_in place x.scope x.name s
set_or_remove place x d s = assign_variable place x d s

-- `c:set` of a variable
abbrev pub set_mean : Place → Variable → Values → (body : State → Did) → State → Did
set_mean place x vs body s = then_do (given_or_body place (value_at (codes "value") vs) body s) (λ d s1. set_or_remove place x d s1)

-- entries with the value under the name, or without it where it is null
abbrev pub with_property : List ℕ → Datum → Entries → Entries
with_property name null entries = without_entry entries name
with_property name d entries = with_entry entries name d

-- a record with a property replaced: X14 of another value, X20 where it is too large
abbrev pub property_replaced : List ℕ → Datum → Datum → Result Datum RunFault
property_replaced name d (rec es) = measured (rec (entries_of (with_property name d (entry_list es))))
property_replaced name d other = Err fault.NotARecord

-- `c:set` of an entry of a record, which is written back to its scope
abbrev pub set_entry_mean : Place → (target : List ℕ) → Values → (body : State → Did) → State → Did
set_entry_mean place target vs body s =
    then_do (given_or_body place (value_at (codes "value") vs) body s)
    (λ d s1. then_do (look_up place target s1) (λ p s2. then_do (result_of place (property_replaced (text_at (codes "property") vs) d p.1) s2) (λ r s3. assign place p.0 target r s3)))

-- a catch takes the faults up to X16
abbrev pub is_caught : RunFault → Bool
is_caught f = nat_le (number_of f) 16

-- `c:catch`: a fault is kept in its variable, and the bodies that were kept inside are dropped; without a fault the variable goes
abbrev pub catch_mean : Option (List ℕ) → (bodies : ℕ) → Did → Did
catch_mean name bodies (Well u s) = Well tt (without_named name s)
catch_mean name bodies (Raised f place s) =
    if is_caught f then Well tt (with_named name (fault_record (record { fault = f; place = place })) (in_writer (with_bodies bodies s.writer) s))
    else Raised f place s
catch_mean name bodies (Ended leaving s) = Ended leaving s
catch_mean name bodies (Awaits step s) = Awaits step s

-- sets a variable, where one is given
abbrev pub assign_given : Place → Option Variable → Datum → State → Did
assign_given place (Some x) d s = assign_variable place x d s
assign_given place None d s = Well tt s

-- `c:if`: its variable gets the truth value; then the body, where that is true
abbrev pub if_mean : Place → Option Variable → Bool → (body : State → Did) → State → Did
if_mean place x t body s = then_do (assign_given place x (truth t) s) (λ u s1. either t body (λ s2. Well tt s2) s1)

-- `c:forEach`
abbrev pub each_mean : Place → (variable status : Option (List ℕ)) → Values → (body : State → Did) → State → Did
each_mean place variable status vs body s =
    then_do (result_of place (and_then (given_items (value_at (codes "items") vs)) (λ items. rounds_of items vs)) s) (λ rounds s1. loop_mean place variable status vs body rounds s1)

-- `c:forTokens`
abbrev pub each_token_mean : Place → (variable status : Option (List ℕ)) → Values → (body : State → Did) → State → Did
each_token_mean place variable status vs body s =
    then_do (result_of place (rounds_of (Some (token_items (tokens (text_at (codes "delims") vs) (text_at (codes "items") vs)))) vs) s)
    (λ rounds s1. loop_mean place variable status vs body rounds s1)
