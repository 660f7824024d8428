-- How a connection goes on from request to request.
use Rattle.std.proofs.Common.{◌≡◌, ◌≢◌, ◌≤◌, ◌<◌, ℕ, ◌+◌, Bool, true, false, List, [], ◌∷◌, ◌++◌, inl, inr, length, map, Option, Err, refl, sym, ap, subst, ◌∙◌, append_assoc, arith}
use Rattle.std.specs.Prelude.{◌||◌}
use Rattle.std.specs.Io.KnownBytes.{Appends, Consumes, IsAtEnd}
use Rattle.std.proofs.lemmas.List.{append-nil, length_push}
use Rattle.edges.proofs.ToldBytes.{consumes_both, consumes_none, appends_both, appends_none}
use Rattle.edges.specs.Faults.{Rose}
use Rattle.pg_text.specs.declared.failure.Failure.TheVariants as failure
use Rattle.http_in.specs.declared.fault.HttpFault.{HttpFault}
use Rattle.http_in.specs.declared.fault.HttpFault.TheVariants as http
use Rattle.http_in.specs.declared.request.Request.{Request}
use Rattle.http_in.specs.declared.limits.TheConstants.{MAX_PIECE_BYTES}
use Rattle.http_in.specs.Reading.{Moves, Saw, Reads}
use Rattle.http_in.specs.Requests.{Stop, Ended, Full, Faulted, Front, StopsAt, StandsFirst, HasFault, IsEnd, IsCutOff, IsUnfinished}
use Rattle.http_in.proofs.Moving.{saw as seen_so}
use Rattle.http_in.proofs.Growth.{front_of_requests_grows, front_more}
use Rattle.http_out.proofs.SentLemmas.{sent_after}
use Rattle.conversation.specs.declared.ended.Ended.{Ended as Outcome}
use Rattle.conversation.specs.declared.ended.Ended.TheVariants as outcome
use Rattle.conversation.specs.Exchange.{Exchange, exchange_of, request_in}
use Rattle.conversation.specs.Refusal.{Refuses, IsShown, refusal}
use Rattle.conversation.proofs.Told.{all_bytes}
use Rattle.conversation.specs.Served.{IsServed, IsServedInPart, IsStarved}
use Rattle.conversation.specs.Conversation.{closes, stops_after, Walked, texts, GoesOn, EndsAt, last_words, outcome_of, IsReadOut, IsReadOn, HasCome, IsConversation, StoppedWriting, StoppedForMemory, Tells}

-- so far
pub record IsSoFar {W : Type 0} (serves : Bool → W → Exchange → W → Type 0) (start now : W) (left later old new : Option (List ℕ)) (rest : List ℕ) (number : ℕ) : Type 0 where
  pub come : HasCome serves start now left later rest
  pub count : length come.exchanges ≡ number
  pub written : Appends old new (texts come.exchanges)

pub begins : {W : Type 0} (serves : Bool → W → Exchange → W → Type 0) (start : W) (left taken : Option (List ℕ)) → IsSoFar serves start start left left taken taken [] 0
begins serves start left taken = record {
  come = record { exchanges = []; came = []; consumed = consumes_none left; front = refl; goes_on = tt; walked = refl };
  count = refl;
  written = appends_none taken;
}

-- one exchange more
walked-push : {W : Type 0} (serves : Bool → W → Exchange → W → Type 0) (number : ℕ) (a b c : W) (exchanges : List Exchange) (e : Exchange)
    → Walked serves number a exchanges b → serves (closes (number + length exchanges) e.request) b e c → Walked serves number a (exchanges ++ e ∷ []) c
walked-push serves number a b c [] e was next =
    (c, subst (λ from. serves (closes number e.request) from e c) was (subst (λ n. serves (closes n e.request) b e c) (let h : number + 0 ≡ number = omega arith in h) next), refl)
walked-push serves number a b c (first ∷ exchanges) e was next =
    (was.0, was.1, walked-push serves (number + 1) was.0 b c exchanges e was.2 (subst (λ n. serves (closes n e.request) b e c) (let h : number + length (first ∷ exchanges) ≡ (number + 1) + length exchanges = omega arith in h) next))

texts-push : (exchanges : List Exchange) (e : Exchange) → texts (exchanges ++ e ∷ []) ≡ texts exchanges ++ e.text
texts-push [] e = append-nil e.text
texts-push (first ∷ exchanges) e = ap (λ text. first.text ++ text) (texts-push exchanges e) ∙ sym (append_assoc first.text (texts exchanges) e.text)

requests-push : (exchanges : List Exchange) (e : Exchange) → map request_in (exchanges ++ e ∷ []) ≡ map request_in exchanges ++ e.request ∷ []
requests-push [] e = refl
requests-push (first ∷ exchanges) e = ap (λ l. first.request ∷ l) (requests-push exchanges e)

goes_on-push : (number : ℕ) (exchanges : List Exchange) (e : Exchange) → GoesOn number exchanges → stops_after (number + length exchanges) e ≡ false → GoesOn number (exchanges ++ e ∷ [])
goes_on-push number [] e goes open_still = (subst (λ n. stops_after n e ≡ false) (let h : number + 0 ≡ number = omega arith in h) open_still, tt)
goes_on-push number (first ∷ exchanges) e goes open_still =
    (goes.0, goes_on-push (number + 1) exchanges e goes.1 (subst (λ n. stops_after n e ≡ false) (let h : number + length (first ∷ exchanges) ≡ (number + 1) + length exchanges = omega arith in h) open_still))

-- where the walk stops after no exchange, the bytes stop it
ends_by_bytes : (stop : Stop) (number : ℕ) (exchanges : List Exchange) → stop ≢ Full → GoesOn number exchanges → EndsAt stop number exchanges
ends_by_bytes stop number [] other goes = other
ends_by_bytes stop number (e ∷ exchanges) other goes = rw goes.0 (ends_by_bytes stop (number + 1) exchanges other goes.1)

-- the walk stops after the last exchange
ends_by_exchange : (number : ℕ) (exchanges : List Exchange) (e : Exchange) → GoesOn number exchanges → stops_after (number + length exchanges) e ≡ true → EndsAt Full number (exchanges ++ e ∷ [])
ends_by_exchange number [] e goes last =
    let here : stops_after number e ≡ true = subst (λ n. stops_after n e ≡ true) (let h : number + 0 ≡ number = omega arith in h) last in
    rw here (refl, refl)
ends_by_exchange number (first ∷ exchanges) e goes last =
    rw goes.0 (ends_by_exchange (number + 1) exchanges e goes.1 (subst (λ n. stops_after n e ≡ true) (let h : number + length (first ∷ exchanges) ≡ (number + 1) + length exchanges = omega arith in h) last))

at_number : {W : Type 0} (serves : Bool → W → Exchange → W → Type 0) (a b : W) (n m : ℕ) (e : Exchange) → n ≡ m → serves (closes n e.request) a e b → serves (closes m e.request) a e b
at_number serves a b n m e is t = subst (λ k. serves (closes k e.request) a e b) is t

or_true : (a b : Bool) → b ≡ true → (a || b) ≡ true
or_true false b is = is
or_true true b is = refl

or_first : (a b : Bool) → a ≡ true → (a || b) ≡ true
or_first false b is = absurd (cc)
or_first true b is = refl

or_false : (a b : Bool) → a ≡ false → b ≡ false → (a || b) ≡ false
or_false false b first second = second
or_false true b first second = absurd (cc)

-- one request more was read and answered, and the walk goes on
pub goes_on : {W : Type 0} (serves : Bool → W → Exchange → W → Type 0) (start mid now : W) (left between later old taken new : Option (List ℕ)) (rest after_it : List ℕ) (number : ℕ) (request : Request) (close : Bool)
    → IsSoFar serves start mid left between old taken rest number
    → Saw between later rest (λ seen. StandsFirst seen request after_it)
    → IsServed serves close request false mid now taken new
    → close ≡ closes number request → close ≡ false
    → IsSoFar serves start now left later old new after_it (number + 1)
goes_on serves start mid now left between later old taken new rest after_it number request close was saw is close_is open_still =
    let e : Exchange = exchange_of request is.text false in
    let here : number ≡ 0 + length was.come.exchanges = omega (arith, was.count) in
    record {
      come = record {
        exchanges = was.come.exchanges ++ e ∷ [];
        came = was.come.came ++ saw.piece;
        consumed = consumes_both left between later was.come.came saw.piece was.come.consumed saw.consumed;
        front = subst (λ requests. Front (was.come.came ++ saw.piece) requests after_it) (sym (requests-push was.come.exchanges e))
            (front_more (map request_in was.come.exchanges) (was.come.came ++ saw.piece) (rest ++ saw.piece) after_it request (front_of_requests_grows (map request_in was.come.exchanges) was.come.came saw.piece rest was.come.front) saw.holds);
        goes_on = goes_on-push 0 was.come.exchanges e was.come.goes_on (subst (λ n. stops_after n e ≡ false) here (or_false (closes number request) false (sym close_is ∙ open_still) refl));
        walked = walked-push serves 0 start mid now was.come.exchanges e was.come.walked (at_number serves mid now number (0 + length was.come.exchanges) e here (subst (λ c. serves c mid e now) close_is is.served));
      };
      count = length_push was.come.exchanges e ∙ ap (λ n. n + 1) was.count;
      written = subst (λ text. Appends old new text) (sym (texts-push was.come.exchanges e)) (appends_both old taken new (texts was.come.exchanges) is.text was.written is.written);
    }

-- one request more was read and answered, and the walk stops
pub stopped : {W : Type 0} (serves : Bool → W → Exchange → W → Type 0) (start mid now : W) (left between later old taken new : Option (List ℕ)) (rest after_it : List ℕ) (number : ℕ) (request : Request) (close broken : Bool)
    → IsSoFar serves start mid left between old taken rest number
    → Saw between later rest (λ seen. StandsFirst seen request after_it)
    → length after_it < MAX_PIECE_BYTES
    → IsServed serves close request broken mid now taken new
    → close ≡ closes number request → (close || broken) ≡ true
    → IsConversation serves start now left later old new outcome.Done
stopped serves start mid now left between later old taken new rest after_it number request close broken was saw read_on is close_is last =
    let e : Exchange = exchange_of request is.text broken in
    let here : number ≡ 0 + length was.come.exchanges = omega (arith, was.count) in
    let consumed = consumes_both left between later was.come.came saw.piece was.come.consumed saw.consumed in
    let front = subst (λ requests. Front (was.come.came ++ saw.piece) requests after_it) (sym (requests-push was.come.exchanges e))
    (front_more (map request_in was.come.exchanges) (was.come.came ++ saw.piece) (rest ++ saw.piece) after_it request (front_of_requests_grows (map request_in was.come.exchanges) was.come.came saw.piece rest was.come.front) saw.holds) in
    record {
      came = was.come.came ++ saw.piece;
      consumed = consumed;
      exchanges = was.come.exchanges ++ e ∷ [];
      rest = after_it;
      front = front;
      walked = walked-push serves 0 start mid now was.come.exchanges e was.come.walked (at_number serves mid now number (0 + length was.come.exchanges) e here (subst (λ c. serves c mid e now) close_is is.served));
      stop = Full;
      stops = tt;
      ends = ends_by_exchange 0 was.come.exchanges e was.come.goes_on (subst (λ n. stops_after n e ≡ true) here (subst (λ c. (c || broken) ≡ true) close_is last));
      read_out = tt;
      read_on = read_on;
      outcome = refl;
      written = subst (λ text. Appends old new text) (sym (append-nil (texts (was.come.exchanges ++ e ∷ []))))
          (subst (λ text. Appends old new text) (sym (texts-push was.come.exchanges e)) (appends_both old taken new (texts was.come.exchanges) is.text was.written is.written));
      told = all_bytes left later (was.come.came ++ saw.piece) after_it (map request_in (was.come.exchanges ++ e ∷ [])) Full consumed front tt tt;
    }

pub broken_stops : (close : Bool) → (close || true) ≡ true
broken_stops close = or_true close true refl

pub close_stops : (close broken : Bool) → close ≡ true → (close || broken) ≡ true
close_stops close broken is = or_first close broken is

-- what was seen last where the bytes stop the requests; nothing may follow where the input ended
abbrev pub StopSeen : Stop → List ℕ → Option (List ℕ) → Type 0
StopSeen Ended seen later = IsEnd seen × IsAtEnd later
StopSeen Full seen later = ⊥
StopSeen (Faulted http.CutOff) seen later = IsCutOff seen × IsAtEnd later
StopSeen (Faulted fault) seen later = HasFault fault seen

stop_there : (stop : Stop) (seen : List ℕ) (later : Option (List ℕ)) → StopSeen stop seen later → StopsAt stop seen
stop_there Ended seen later has = has.0
stop_there Full seen later has = absurd has
stop_there (Faulted http.CutOff) seen later has = has.0
stop_there (Faulted fault) seen later has = has

stop_is_not_full : (stop : Stop) (seen : List ℕ) (later : Option (List ℕ)) → StopSeen stop seen later → stop ≢ Full
stop_is_not_full Ended seen later has = λ e. (cc)
stop_is_not_full Full seen later has = absurd has
stop_is_not_full (Faulted fault) seen later has = λ e. (cc)

stop_read_out : (stop : Stop) (seen : List ℕ) (later : Option (List ℕ)) → StopSeen stop seen later → IsReadOut stop later
stop_read_out Ended seen later has = has.1
stop_read_out Full seen later has = absurd has
stop_read_out (Faulted http.CutOff) seen later has = has.1
stop_read_out (Faulted fault) seen later has = tt

-- more came, and no further request
abbrev pub come_more : {W : Type 0} (serves : Bool → W → Exchange → W → Type 0) (start now : W) (left between later : Option (List ℕ)) (rest piece : List ℕ)
    → HasCome serves start now left between rest → Consumes between later piece → HasCome serves start now left later (rest ++ piece)
come_more serves start now left between later rest piece come consumed = record {
  exchanges = come.exchanges;
  came = come.came ++ piece;
  consumed = consumes_both left between later come.came piece come.consumed consumed;
  front = front_of_requests_grows (map request_in come.exchanges) come.came piece rest come.front;
  goes_on = come.goes_on;
  walked = come.walked;
}

-- where the bytes stop the requests, the conversation is whole
stops : {W : Type 0} (serves : Bool → W → Exchange → W → Type 0) (start now : W) (left between later old taken new : Option (List ℕ)) (rest : List ℕ) (number : ℕ) (stop : Stop) (answer : Outcome)
    → IsSoFar serves start now left between old taken rest number
    → Saw between later rest (λ seen. StopSeen stop seen later × IsReadOn stop seen)
    → Appends taken new (last_words stop)
    → answer ≡ outcome_of stop
    → IsConversation serves start now left later old new answer
stops serves start now left between later old taken new rest number stop answer was saw last is =
    let come = come_more serves start now left between later rest saw.piece was.come saw.consumed in
    record {
      came = come.came;
      consumed = come.consumed;
      exchanges = was.come.exchanges;
      rest = rest ++ saw.piece;
      front = come.front;
      walked = come.walked;
      stop = stop;
      stops = stop_there stop (rest ++ saw.piece) later saw.holds.0;
      ends = ends_by_bytes stop 0 was.come.exchanges (stop_is_not_full stop (rest ++ saw.piece) later saw.holds.0) come.goes_on;
      read_out = stop_read_out stop (rest ++ saw.piece) later saw.holds.0;
      read_on = saw.holds.1;
      outcome = is;
      written = appends_both old taken new (texts was.come.exchanges) (last_words stop) was.written last;
      told = all_bytes left later come.came (rest ++ saw.piece) (map request_in was.come.exchanges) stop come.consumed come.front (stop_there stop (rest ++ saw.piece) later saw.holds.0)
          (stop_read_out stop (rest ++ saw.piece) later saw.holds.0);
    }

-- what was seen of a fault that the bytes show
fault_seen : (fault : HttpFault) (mid later : Option (List ℕ)) (rest after_it : List ℕ) → IsShown fault
    → Reads mid later rest after_it (Err (failure.Fault fault)) → IsReadOn (Faulted fault) after_it → Saw mid later rest (λ seen. StopSeen (Faulted fault) seen later × IsReadOn (Faulted fault) seen)
fault_seen http.CutOff mid later rest after_it shown has on =
    seen_so mid later rest after_it (λ seen. StopSeen (Faulted http.CutOff) seen later × IsReadOn (Faulted http.CutOff) seen) has.0 ((has.1, has.2), on)
fault_seen http.ReadFault mid later rest after_it shown has on = absurd (shown refl)
fault_seen fault mid later rest after_it shown has on = seen_so mid later rest after_it (λ seen. StopSeen (Faulted fault) seen later × IsReadOn (Faulted fault) seen) has.0 (has.1, on)

fault_there : (fault : HttpFault) (seen : List ℕ) (later : Option (List ℕ)) → StopSeen (Faulted fault) seen later → HasFault fault seen
fault_there http.CutOff seen later has = has.0
fault_there fault seen later has = has

-- bytes came before the fault
moved_by : (fault : HttpFault) (mid later : Option (List ℕ)) (rest after_it : List ℕ) → Reads mid later rest after_it (Err (failure.Fault fault)) → Moves mid later rest after_it
moved_by http.CutOff mid later rest after_it has = has.0
moved_by http.ReadFault mid later rest after_it has = has.0
moved_by fault mid later rest after_it has = has.0

-- where memory ran out and no request was open
pub starved_between : {W : Type 0} (serves : Bool → W → Exchange → W → Type 0) (starves : Bool → W → Request → List ℕ → W → Type 0) (start now : W) (left between later old taken new : Option (List ℕ)) (before after : ℕ) (rest after_it : List ℕ) (number : ℕ)
    → IsSoFar serves start now left between old taken rest number
    → Moves between later rest after_it → Appends taken new []
    → StoppedForMemory serves starves start now left later before after old new
starved_between serves starves start now left between later old taken new before after rest after_it number was moved told = record {
  rest = rest ++ moved.piece;
  mid = now;
  come = come_more serves start now left between later rest moved.piece was.come moved.consumed;
  text = [];
  is_last = inl (refl, refl);
  failed = false;
  cause = λ is. absurd (cc);
  sent = appends_both old taken new (texts was.come.exchanges) [] was.written told;
}

-- where reading failed, that was told
pub refused : {W : Type 0} (serves : Bool → W → Exchange → W → Type 0) (starves : Bool → W → Request → List ℕ → W → Type 0) (start now : W) (left between later old taken new : Option (List ℕ)) (before after : ℕ) (rest after_it : List ℕ) (number : ℕ) (fault : HttpFault) (answer : Outcome)
    → IsSoFar serves start now left between old taken rest number
    → Reads between later rest after_it (Err (failure.Fault fault)) → IsReadOn (Faulted fault) after_it
    → Refuses fault taken new answer
    → Tells serves starves start now left later before after old new answer
refused serves starves start now left between later old taken new before after rest after_it number fault outcome.Done was has on told = absurd told
refused serves starves start now left between later old taken new before after rest after_it number fault outcome.ReadFault was has on told =
    let read = subst (λ f. Reads between later rest after_it (Err (failure.Fault f))) told.0 has in
    let saw = seen_so between later rest after_it IsUnfinished read.0 read.1 in
    record {
      rest = rest ++ saw.piece;
      come = come_more serves start now left between later rest saw.piece was.come saw.consumed;
      unfinished = saw.holds;
      written = subst (λ text. Appends old new text) (append-nil (texts was.come.exchanges)) (appends_both old taken new (texts was.come.exchanges) [] was.written told.1);
    }
refused serves starves start now left between later old taken new before after rest after_it number fault outcome.WriteFault was has on told =
    let saw = fault_seen fault between later rest after_it told.shown has on in
    record {
      rest = rest ++ saw.piece;
      mid = now;
      come = come_more serves start now left between later rest saw.piece was.come saw.consumed;
      next = refusal fault;
      is_next = inr (fault, fault_there fault (rest ++ saw.piece) later saw.holds.0, refl, refl);
      broke = sent_after old taken new (texts was.come.exchanges) (refusal fault) true was.written told.sent;
    }
refused serves starves start now left between later old taken new before after rest after_it number fault outcome.NoMemory was has on told =
    starved_between serves starves start now left between later old taken new before after rest after_it number was (moved_by fault between later rest after_it has) told
refused serves starves start now left between later old taken new before after rest after_it number fault (outcome.Refused same) was has on told =
    stops serves start now left between later old taken new rest number (Faulted fault) (outcome.Refused same) was (fault_seen fault between later rest after_it told.shown has on) told.written (ap outcome.Refused told.same)

-- where a response could not be written whole
pub unwritten : {W : Type 0} (serves : Bool → W → Exchange → W → Type 0) (start mid now : W) (left between later old taken new : Option (List ℕ)) (rest after_it : List ℕ) (number : ℕ) (request : Request) (close : Bool)
    → IsSoFar serves start mid left between old taken rest number
    → Saw between later rest (λ seen. StandsFirst seen request after_it)
    → IsServedInPart serves close request mid now taken new → close ≡ closes number request
    → StoppedWriting serves start now left later old new
unwritten serves start mid now left between later old taken new rest after_it number request close was saw is close_is = record {
  rest = rest ++ saw.piece;
  mid = mid;
  come = come_more serves start mid left between later rest saw.piece was.come saw.consumed;
  next = is.text;
  is_next = inl (request, is.broken, after_it, saw.holds, subst (λ n. serves (closes n request) mid (exchange_of request is.text is.broken) now) (sym was.count) (subst (λ c. serves c mid (exchange_of request is.text is.broken) now) close_is is.served));
  broke = sent_after old taken new (texts was.come.exchanges) is.text true was.written is.sent;
}

-- where memory ran out for a request
pub starved_by : {W : Type 0} (serves : Bool → W → Exchange → W → Type 0) (starves : Bool → W → Request → List ℕ → W → Type 0) (start mid now : W) (left between later old taken new : Option (List ℕ)) (before entry after : ℕ) (rest after_it : List ℕ) (number : ℕ) (request : Request) (close : Bool)
    → IsSoFar serves start mid left between old taken rest number
    → Saw between later rest (λ seen. StandsFirst seen request after_it)
    → IsStarved starves close request mid now before after taken new → close ≡ closes number request
    → (Rose before after → Rose entry after)
    → StoppedForMemory serves starves start now left later entry after old new
starved_by serves starves start mid now left between later old taken new before entry after rest after_it number request close was saw is close_is earlier = record {
  rest = rest ++ saw.piece;
  mid = mid;
  come = come_more serves start mid left between later rest saw.piece was.come saw.consumed;
  text = is.text;
  is_last = inr (request, after_it, saw.holds, subst (λ n. starves (closes n request) mid request is.text now) (sym was.count) (subst (λ c. starves c mid request is.text now) close_is is.left));
  failed = is.failed;
  cause = λ failed. earlier (is.cause failed);
  sent = sent_after old taken new (texts was.come.exchanges) is.text is.failed was.written is.sent;
}

-- the input ended between requests
pub input_ends : {W : Type 0} (serves : Bool → W → Exchange → W → Type 0) (start now : W) (left between later old taken : Option (List ℕ)) (rest after_it : List ℕ) (number : ℕ)
    → IsSoFar serves start now left between old taken rest number
    → Moves between later rest after_it → IsEnd after_it → IsAtEnd later
    → IsConversation serves start now left later old taken outcome.Done
input_ends serves start now left between later old taken rest after_it number was moved end out =
    let saw = seen_so between later rest after_it (λ seen. StopSeen Ended seen later × IsReadOn Ended seen) moved ((end, out), tt) in
    stops serves start now left between later old taken taken rest number Ended outcome.Done was saw (appends_none taken) refl

-- a count that rose from a later value rose from an earlier one too
pub rose_earlier : (entry before after : ℕ) → entry ≤ before → Rose before after → Rose entry after
rose_earlier entry before after was rose = omega (arith, rose, was)
