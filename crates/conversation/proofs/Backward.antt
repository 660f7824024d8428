-- Where each answer goes back along a relation of states, from what it leaves to what it is answered from, so does a whole conversation.
use Rattle.std.proofs.Common.{ℕ, inl, inr, Bool, List, [], ◌∷◌, length, Option, refl, subst}
use Rattle.http_in.specs.declared.request.Request.{Request}
use Rattle.conversation.specs.declared.ended.Ended.{Ended as Outcome}
use Rattle.conversation.specs.declared.ended.Ended.TheVariants as outcome
use Rattle.conversation.specs.Exchange.{Exchange, exchange_of}
use Rattle.conversation.specs.Conversation.{HasCome, IsConversation, IsLast, IsNext, Tells, WalkedBy, closes, with_closings}

module _ {W : Type 0} (serves : Bool → W → Exchange → W → Type 0) (starves : Bool → W → Request → List ℕ → W → Type 0) (stands : W → W → Type 0)
    (serves_back : (close : Bool) (old now other : W) (e : Exchange) → serves close old e now → stands now other → (before : W) × stands old before × serves close before e other)
    (starves_back : (close : Bool) (old now other : W) (request : Request) (text : List ℕ) → starves close old request text now → stands now other
    → (before : W) × stands old before × starves close before request text other) where
  pub walked_back : (exchanges : List (Bool × Exchange)) (old now other : W) → WalkedBy serves old exchanges now → stands now other
      → (before : W) × stands old before × WalkedBy serves before exchanges other
  walked_back [] old now other walked is = (other, subst (λ s. stands s other) walked is, refl)
  walked_back ((close, e) ∷ exchanges) old now other walked is =
      let later = walked_back exchanges walked.0 now other walked.2 is in
      let first = serves_back close old walked.0 later.0 e walked.1 later.1 in
      (first.0, first.1, (later.0, first.2, later.2))

  abbrev come_so : (start now begun other : W) (left later : Option (List ℕ)) (rest : List ℕ) (come : HasCome serves start now left later rest)
      → WalkedBy serves begun (with_closings 0 come.exchanges) other → HasCome serves begun other left later rest
  come_so start now begun other left later rest come walked = record {
    exchanges = come.exchanges;
    came = come.came;
    consumed = come.consumed;
    front = come.front;
    goes_on = come.goes_on;
    walked = walked;
  }

  next_back : (number : ℕ) (mid now other : W) (rest next : List ℕ) → IsNext serves number mid now rest next → stands now other
      → (before : W) × stands mid before × IsNext serves number before other rest next
  next_back number mid now other rest next (inl (request, broken, after_it, first, served)) is =
      let back = serves_back (closes number request) mid now other (exchange_of request next broken) served is in
      (back.0, back.1, inl (request, broken, after_it, first, back.2))
  next_back number mid now other rest next (inr (fault, has, next_is, same)) is = (other, subst (λ s. stands s other) same is, inr (fault, has, next_is, refl))

  last_back : (number : ℕ) (mid now other : W) (rest text : List ℕ) → IsLast starves number mid now rest text → stands now other
      → (before : W) × stands mid before × IsLast starves number before other rest text
  last_back number mid now other rest text (inl (same, none)) is = (other, subst (λ s. stands s other) same is, inl (refl, none))
  last_back number mid now other rest text (inr (request, after_it, first, starved)) is =
      let back = starves_back (closes number request) mid now other request text starved is in
      (back.0, back.1, inr (request, after_it, first, back.2))

  conversation_back : (start now other : W) (left later old new : Option (List ℕ)) (answer : Outcome) → IsConversation serves start now left later old new answer → stands now other
      → (before : W) × stands start before × IsConversation serves before other left later old new answer
  conversation_back start now other left later old new answer told is =
      let back = walked_back (with_closings 0 told.exchanges) start now other told.walked is in (
        back.0,
        back.1,
        record {
          came = told.came;
          consumed = told.consumed;
          exchanges = told.exchanges;
          rest = told.rest;
          front = told.front;
          walked = back.2;
          stop = told.stop;
          stops = told.stops;
          ends = told.ends;
          read_out = told.read_out;
          read_on = told.read_on;
          outcome = told.outcome;
          written = told.written;
          told = told.told;
        },
      )

  pub tells_back : (start now other : W) (left later : Option (List ℕ)) (faults after : ℕ) (old new : Option (List ℕ)) (answer : Outcome)
      → Tells serves starves start now left later faults after old new answer → stands now other
      → (before : W) × stands start before × Tells serves starves before other left later faults after old new answer
  tells_back start now other left later faults after old new outcome.ReadFault told is =
      let back = walked_back (with_closings 0 told.come.exchanges) start now other told.come.walked is in (
        back.0,
        back.1,
        record { rest = told.rest; come = come_so start now back.0 other left later told.rest told.come back.2; unfinished = told.unfinished; written = told.written },
      )
  tells_back start now other left later faults after old new outcome.WriteFault told is =
      let next = next_back (length told.come.exchanges) told.mid now other told.rest told.next told.is_next is in
      let back = walked_back (with_closings 0 told.come.exchanges) start told.mid next.0 told.come.walked next.1 in (
        back.0,
        back.1,
        record {
          rest = told.rest;
          mid = next.0;
          come = come_so start told.mid back.0 next.0 left later told.rest told.come back.2;
          next = told.next;
          is_next = next.2;
          broke = told.broke;
        },
      )
  tells_back start now other left later faults after old new outcome.NoMemory told is =
      let last = last_back (length told.come.exchanges) told.mid now other told.rest told.text told.is_last is in
      let back = walked_back (with_closings 0 told.come.exchanges) start told.mid last.0 told.come.walked last.1 in (
        back.0,
        back.1,
        record {
          rest = told.rest;
          mid = last.0;
          come = come_so start told.mid back.0 last.0 left later told.rest told.come back.2;
          text = told.text;
          is_last = last.2;
          failed = told.failed;
          cause = told.cause;
          sent = told.sent;
        },
      )
  tells_back start now other left later faults after old new outcome.Done told is = conversation_back start now other left later old new outcome.Done told is
  tells_back start now other left later faults after old new (outcome.Refused fault) told is = conversation_back start now other left later old new (outcome.Refused fault) told is
