-- The objects of a request's fields, and `pageContext`, for proofs alone.
use Rattle.std.specs.Prelude.{ℕ, List, codes, Option, Result, Ok, Err}
use Rattle.http_in.specs.declared.params.Param.{Param}
use Rattle.http_in.specs.declared.request.Request.{Request}
use Rattle.page_code.specs.declared.operands.Implicit.{Implicit}
use Rattle.page_code.specs.declared.operands.Implicit.TheVariants as object
use Rattle.page_meaning.specs.Faults.{Raise}
use Rattle.page_meaning.specs.Implicit.{exception_datum, session_datum}
use Rattle.page_meaning.specs.Request.{first_values, all_values, cookie_records, request_record}
use Rattle.pg_value.specs.Datum.{Datum, null, rec, no_entries, entry, entries_of}
use Rattle.pg_value.specs.declared.fault.RunFault.{RunFault}
use Rattle.pg_value.specs.declared.fault.RunFault.TheVariants as fault
use Rattle.site_words.specs.PageSteps.{value_in}
use Rattle.site_words.specs.declared.words.AppReply.{AppReply}
use Rattle.site_words.specs.declared.words.AppReply.TheVariants as reply
use Rattle.run_values.specs.Objects.{header_entries}

-- the record that `pageContext` is
abbrev pub page_context_of : Request → Option Raise → (id : Option (List ℕ)) → Datum
page_context_of request exception id =
    rec (entry (codes "exception") (exception_datum exception) (entry (codes "request") (request_record request) (entry (codes "session") (session_datum id) no_entries)))

-- the value of an implicit object that no scope is
abbrev pub request_value : Request → Option Raise → (id : Option (List ℕ)) → List Param → Implicit → Datum
request_value request exception id params object.PageContext = page_context_of request exception id
request_value request exception id params object.Param = rec (entries_of (first_values params))
request_value request exception id params object.ParamValues = rec (entries_of (all_values params))
request_value request exception id params (object.Header which) = rec (entries_of (header_entries request which))
request_value request exception id params object.Cookie = rec (entries_of (cookie_records request))
request_value request exception id params object.InitParam = rec no_entries
request_value request exception id params (object.Scope scope) = null

-- the whole of application scope as a reply tells it, or X20
abbrev pub whole_answer : AppReply → Result Datum RunFault
whole_answer (reply.Large weight) = Err fault.ValueTooLarge
whole_answer other = Ok (value_in other)
