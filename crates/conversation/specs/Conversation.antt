-- The conversation on a connection.
use Rattle.std.specs.Prelude.{◌≡◌, ◌≢◌, ◌<◌, ◌+◌, ◌⊎◌, ◌||◌, ◌==◌, ℕ, Bool, true, false, List, [], ◌∷◌, ◌++◌, length, map, Option, Err, IfSome, ⊤}
use Rattle.std.specs.Bool.{MatchBool}
use Rattle.std.specs.Io.KnownBytes.{Appends, Consumes, IsAtEnd}
use Rattle.edges.specs.Faults.{Rose}
use Rattle.pg_text.specs.declared.failure.Failure.TheVariants as failure
use Rattle.http_in.specs.declared.fault.HttpFault.{HttpFault}
use Rattle.http_in.specs.declared.fault.HttpFault.TheVariants as http
use Rattle.http_in.specs.declared.limits.TheConstants.{MAX_PIECE_BYTES}
use Rattle.http_in.specs.Reading.{ReadsOn}
use Rattle.http_in.specs.declared.request.Request.{Request}
use Rattle.http_in.specs.Requests.{Stop, Ended, Full, Faulted, StopsAt, Cut, Front, StandsFirst, HasFault, IsUnfinished}
use Rattle.http_out.specs.Sent.{SentAfter, BreaksOff}
use Rattle.conversation.specs.declared.limits.TheConstants.{MAX_REQUESTS}
use Rattle.conversation.specs.Exchange.{Exchange, exchange_of, request_in}
use Rattle.conversation.specs.Refusal.{refusal}
use Rattle.conversation.specs.declared.ended.Ended.{Ended as Outcome}
use Rattle.conversation.specs.declared.ended.Ended.TheVariants as outcome

-- whether the connection closes after a request: it asks for that, or it is the 65,536th; the number is that of the requests before it
unfoldable pub closes : ℕ → Request → Bool
closes number request = request.close || (number + 1 == MAX_REQUESTS)

-- whether the walk stops after an exchange: the connection closes, or the response is unfinished
abbrev pub stops_after : ℕ → Exchange → Bool
stops_after number e = closes number e.request || e.broken

-- the exchanges lead from one state to the other, one after the other; each comes with whether the connection closes after it
abbrev pub WalkedBy : {W : Type 0} → (Bool → W → Exchange → W → Type 0) → W → List (Bool × Exchange) → W → Type 0
WalkedBy serves old [] new = new ≡ old
WalkedBy {W = W} serves old ((close, e) ∷ exchanges) new = (mid : W) × serves close old e mid × WalkedBy serves mid exchanges new

-- each exchange with whether the connection closes after it; so many came before them
abbrev pub with_closings : ℕ → List Exchange → List (Bool × Exchange)
with_closings number [] = []
with_closings number (e ∷ exchanges) = (closes number e.request, e) ∷ with_closings (number + 1) exchanges

-- the exchanges of a connection lead from one state to the other; so many came before them
abbrev pub Walked : {W : Type 0} → (Bool → W → Exchange → W → Type 0) → ℕ → W → List Exchange → W → Type 0
Walked serves number old exchanges new = WalkedBy serves old (with_closings number exchanges) new

-- the responses, joined
abbrev pub texts : List Exchange → List ℕ
texts [] = []
texts (e ∷ exchanges) = e.text ++ texts exchanges

-- the walk stops after none of these
abbrev pub GoesOn : ℕ → List Exchange → Type 0
GoesOn number [] = ⊤
GoesOn number (e ∷ exchanges) = (stops_after number e ≡ false) × GoesOn (number + 1) exchanges

-- these are all up to the first after which the walk stops, or, where it stops after none, up to where the bytes stop it
abbrev pub EndsAt : Stop → ℕ → List Exchange → Type 0
EndsAt stop number [] = stop ≢ Full
EndsAt stop number (e ∷ exchanges) = MatchBool (stops_after number e) ((exchanges ≡ []) × (stop ≡ Full)) (EndsAt stop (number + 1) exchanges)

-- what is written where the requests stop
abbrev pub last_words : Stop → List ℕ
last_words Ended = []
last_words Full = []
last_words (Faulted fault) = refusal fault

-- how the connection ends where the requests stop
abbrev pub outcome_of : Stop → Outcome
outcome_of Ended = outcome.Done
outcome_of Full = outcome.Done
outcome_of (Faulted fault) = outcome.Refused fault

-- where the input ended there is nothing left to read
abbrev pub IsReadOut : Stop → Option (List ℕ) → Type 0
IsReadOut Ended later = IsAtEnd later
IsReadOut (Faulted http.CutOff) later = IsAtEnd later
IsReadOut stop later = ⊤

-- how far was read on where the requests stop: fewer than 4,096 bytes stand behind the last request, behind a head with a fault, and behind the bytes among which a head has to end
abbrev pub IsReadOn : Stop → List ℕ → Type 0
IsReadOn Ended rest = ⊤
IsReadOn Full rest = length rest < MAX_PIECE_BYTES
IsReadOn (Faulted fault) rest = ReadsOn rest (Err (failure.Fault fault))

-- the bytes that came begin with the requests of exchanges, after none of which the walk stops, and go on with the rest
pub record HasCome {W : Type 0} (serves : Bool → W → Exchange → W → Type 0) (start now : W) (left later : Option (List ℕ)) (rest : List ℕ) : Type 0 where
  pub exchanges : List Exchange
  pub came : List ℕ
  pub consumed : Consumes left later came
  pub front : Front came (map request_in exchanges) rest
  pub goes_on : GoesOn 0 exchanges
  pub walked : Walked serves 0 start exchanges now

-- the bytes that came are these requests, each was answered, and nothing else was written
pub record IsConversation {W : Type 0} (serves : Bool → W → Exchange → W → Type 0) (start now : W) (left later old new : Option (List ℕ)) (answer : Outcome) : Type 0 where
  pub came : List ℕ
  pub consumed : Consumes left later came
  pub exchanges : List Exchange
  pub rest : List ℕ
  pub front : Front came (map request_in exchanges) rest
  pub walked : Walked serves 0 start exchanges now
  pub stop : Stop
  pub stops : StopsAt stop rest
  pub ends : EndsAt stop 0 exchanges
  pub read_out : IsReadOut stop later
  pub read_on : IsReadOn stop rest
  pub outcome : answer ≡ outcome_of stop
  pub written : Appends old new (texts exchanges ++ last_words stop)
  -- where the source tells its bytes, these are all of them
  pub told : IfSome left (λ bytes. Cut bytes (map request_in exchanges) stop)

-- the requests that stand whole in the bytes that came were answered, and nothing else was written
pub record StoppedReading {W : Type 0} (serves : Bool → W → Exchange → W → Type 0) (start now : W) (left later old new : Option (List ℕ)) : Type 0 where
  pub rest : List ℕ
  pub come : HasCome serves start now left later rest
  pub unfinished : IsUnfinished rest
  pub written : Appends old new (texts come.exchanges)

-- what was to be written next: the response to a request, which was run to its end, or the answer to a fault
abbrev pub IsNext : {W : Type 0} → (Bool → W → Exchange → W → Type 0) → ℕ → W → W → List ℕ → List ℕ → Type 0
IsNext serves number mid now rest next =
    ((request : Request) × (broken : Bool) × (after_it : List ℕ) × StandsFirst rest request after_it × serves (closes number request) mid (exchange_of request next broken) now)
    ⊎ ((fault : HttpFault) × HasFault fault rest × (next ≡ refusal fault) × (now ≡ mid))

-- these requests were answered whole, and of what was next only a part was taken
pub record StoppedWriting {W : Type 0} (serves : Bool → W → Exchange → W → Type 0) (start now : W) (left later old new : Option (List ℕ)) : Type 0 where
  pub rest : List ℕ
  pub mid : W
  pub come : HasCome serves start mid left later rest
  pub next : List ℕ
  pub is_next : IsNext serves (length come.exchanges) mid now rest next
  pub broke : BreaksOff old new (texts come.exchanges) next

-- where memory ran out: no request was open, and nothing was to be written; or a request was, which
-- left this state and this text
abbrev pub IsLast : {W : Type 0} → (Bool → W → Request → List ℕ → W → Type 0) → ℕ → W → W → List ℕ → List ℕ → Type 0
IsLast starves number mid now rest text =
    ((now ≡ mid) × (text ≡ []))
    ⊎ ((request : Request) × (after_it : List ℕ) × StandsFirst rest request after_it × starves (closes number request) mid request text now)

-- these requests were answered whole, and then memory ran out
pub record StoppedForMemory {W : Type 0} (serves : Bool → W → Exchange → W → Type 0) (starves : Bool → W → Request → List ℕ → W → Type 0) (start now : W) (left later : Option (List ℕ)) (before after : ℕ) (old new : Option (List ℕ)) : Type 0 where
  pub rest : List ℕ
  pub mid : W
  pub come : HasCome serves start mid left later rest
  pub text : List ℕ
  pub is_last : IsLast starves (length come.exchanges) mid now rest text
  pub failed : Bool
  pub cause : failed ≡ true → Rose before after
  pub sent : SentAfter old new (texts come.exchanges) text failed

-- what an outcome says of a connection: start and now are the states, left and later what its source had and has left, before and after its sink's count of faults, old and new what its sink had and has taken
abbrev pub Tells : {W : Type 0} → (Bool → W → Exchange → W → Type 0) → (Bool → W → Request → List ℕ → W → Type 0) → W → W → Option (List ℕ) → Option (List ℕ) → ℕ → ℕ → Option (List ℕ) → Option (List ℕ) → Outcome → Type 0
Tells serves starves start now left later before after old new outcome.ReadFault = StoppedReading serves start now left later old new
Tells serves starves start now left later before after old new outcome.WriteFault = StoppedWriting serves start now left later old new
Tells serves starves start now left later before after old new outcome.NoMemory = StoppedForMemory serves starves start now left later before after old new
Tells serves starves start now left later before after old new answer = IsConversation serves start now left later old new answer
