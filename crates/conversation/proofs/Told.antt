-- Where the source tells its bytes, what is said of those that came is said of all of them.
use Rattle.std.proofs.Common.{◌≡◌, ℕ, List, ◌++◌, Option, Some, None, sym, subst}
use Rattle.std.specs.Prelude.{IfSome}
use Rattle.std.proofs.lemmas.List.{append-nil}
use Rattle.std.specs.Io.KnownBytes.{Consumes}
use Rattle.edges.proofs.ToldBytes.{told_front, none_left}
use Rattle.http_in.specs.declared.fault.HttpFault.TheVariants as http
use Rattle.http_in.specs.Requests.{Stop, Ended, Full, Faulted, Front, StopsAt, Cut, IsEnd, IsCutOff}
use Rattle.http_in.proofs.Growth.{front_of_requests_grows, no_head_grows, bad_head_grows}
use Rattle.http_in.specs.declared.request.Request.{Request}
use Rattle.conversation.specs.Conversation.{IsReadOut}

stop_grows : (stop : Stop) (seen : List ℕ) (later : Option (List ℕ)) (more : List ℕ) → later ≡ Some more → StopsAt stop seen → IsReadOut stop later → StopsAt stop (seen ++ more)
stop_grows Ended seen later more is has out = subst (λ none. IsEnd (seen ++ none)) (sym (none_left later more is out)) (subst IsEnd (sym (append-nil seen)) has)
stop_grows Full seen later more is has out = tt
stop_grows (Faulted http.HeadTooLarge) seen later more is has out = no_head_grows seen more has
stop_grows (Faulted http.CutOff) seen later more is has out = subst (λ none. IsCutOff (seen ++ none)) (sym (none_left later more is out)) (subst IsCutOff (sym (append-nil seen)) has)
stop_grows (Faulted http.ReadFault) seen later more is has out = has
stop_grows (Faulted fault) seen later more is has out = bad_head_grows seen more fault has

-- the bytes that the source had left are the requests, and then what stops them
pub all_bytes : (left later : Option (List ℕ)) (came rest : List ℕ) (requests : List Request) (stop : Stop)
    → Consumes left later came → Front came requests rest → StopsAt stop rest → IsReadOut stop later → IfSome left (λ bytes. Cut bytes requests stop)
all_bytes None later came rest requests stop consumed front stops out = tt
all_bytes (Some bytes) later came rest requests stop consumed front stops out =
    let all = told_front bytes later came consumed in
    record {
      rest = rest ++ all.0;
      front = subst (λ text. Front text requests (rest ++ all.0)) (sym all.2) (front_of_requests_grows requests came all.0 rest front);
      stops = stop_grows stop rest later all.0 all.1 stops out;
    }
