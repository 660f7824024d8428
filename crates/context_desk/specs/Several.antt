-- Several contexts that share a connection: the requests of each are answered in it, without its name in their targets.
use Rattle.std.specs.Prelude.{◌≡◌, ◌⊎◌, ℕ, Bool, false, List, [], codes, drop, Option, Some, None, set}
use Rattle.std.specs.List.{slice_get}
use Rattle.context_names.specs.Targets.{context_of}
use Rattle.conversation.specs.Exchange.{Exchange, exchange_of}
use Rattle.conversation.specs.Served.{Served}
use Rattle.conversation.specs.declared.desk.Outcome.{Outcome}
use Rattle.http_in.specs.Request.{request_of}
use Rattle.http_in.specs.declared.request.Request.{Request}
use Rattle.http_out.specs.Methods.{shows_body}
use Rattle.http_out.specs.Response.{plain}
use Rattle.http_out.specs.declared.status.Status.TheVariants as status

-- what each context has of its own, and what is lent to all
pub record Several (A B : Type 0) : Type 0 where
  pub parts : List A
  pub lent : B

-- these two
abbrev pub several_of : {A B : Type 0} → List A → B → Several A B
several_of parts lent = record { parts = parts; lent = lent }

-- the request without the first bytes of its target
abbrev pub retargeted : (cut : ℕ) → Request → Request
retargeted cut request = request_of request.method (drop cut request.target) request.fields request.body

-- an exchange as its context sees it
abbrev pub exchange_inside : (cut : ℕ) → Exchange → Exchange
exchange_inside cut e = exchange_of (retargeted cut e.request) e.text e.broken

-- how a context answers: from what it has and is lent, by an exchange, to what it then has and is lent
abbrev pub Does : (A B : Type 0) → Type 1
Does A B = Bool → A → B → Exchange → A → B → Type 0

-- what it leaves of a request for which memory ran out, with the text that was to be written
abbrev pub Lets : (A B : Type 0) → Type 1
Lets A B = Bool → A → B → Request → List ℕ → A → B → Type 0

-- what the answer to one request of a context comes to: before and after are the sink's count of faults, taken and now its
-- bytes
abbrev pub ServedIn : {A B : Type 0} → (does : Does A B) → (leaves : Lets A B) → Bool → Request → A → B → A → B → ℕ → ℕ
    → Option (List ℕ) → Option (List ℕ) → Outcome → Type 0
ServedIn {A = A} {B = B} does leaves close request a b a' b' before after taken now answer =
    Served {W = A × B} (λ close old e new. does close old.0 old.1 e new.0 new.1)
    (λ close old request text new. leaves close old.0 old.1 request text new.0 new.1)
    close request (a, b) (a', b') before after taken now answer

-- what a request that belongs to no context is answered
abbrev pub nothing_found : (close : Bool) → Request → List ℕ
nothing_found close request = plain status.NotFound close (codes "NotFound") (shows_body request.method)

-- nothing was found, and nothing was asked of any context
pub record IsNowhere {A B : Type 0} (close : Bool) (old : Several A B) (e : Exchange) (new : Several A B) : Type 0 where
  pub same : new ≡ old
  pub text_is : e.text ≡ nothing_found close e.request
  pub broken_is : e.broken ≡ false

-- in this context it came so far, and what the others have is as it was
pub record IsIn {C A B : Type 0} (places : List C) (context : ℕ) (old new : Several A B)
    (comes : C → A → B → A → B → Type 0) : Type 0 where
  pub place : C
  pub place_is : slice_get places context ≡ Some place
  pub before : A
  pub before_is : slice_get old.parts context ≡ Some before
  pub after : A
  pub came : comes place before old.lent after new.lent
  pub parts_are : new.parts ≡ set old.parts context after

module _ {C A B : Type 0} (names : List (List ℕ)) (places : List C) where
  -- one exchange, by the context to which its request belongs: how the contexts answer is does
  abbrev pub AnswersIn : (does : C → Does A B) → (close : Bool) → (old : Several A B) → Exchange → (new : Several A B)
      → Option (ℕ × ℕ) → Type 0
  AnswersIn does close old e new None = IsNowhere close old e new
  AnswersIn does close old e new (Some found) =
      IsIn places found.0 old new (λ place a b a' b'. does place close a b (exchange_inside found.1 e) a' b')

  abbrev pub Answers : (does : C → Does A B) → (close : Bool) → (old : Several A B) → Exchange → (new : Several A B)
      → Type 0
  Answers does close old e new = AnswersIn does close old e new (context_of names e.request.target)

  -- memory ran out: before the request came to its context, or there
  abbrev pub LeavesIn : (leaves : C → Lets A B) → (close : Bool) → (old : Several A B) → Request → (text : List ℕ)
      → (new : Several A B) → Option (ℕ × ℕ) → Type 0
  LeavesIn leaves close old request text new None = (new ≡ old) × (text ≡ [])
  LeavesIn leaves close old request text new (Some found) =
      ((new ≡ old) × (text ≡ []))
      ⊎ IsIn places found.0 old new (λ place a b a' b'. leaves place close a b (retargeted found.1 request) text a' b')

  abbrev pub Leaves : (leaves : C → Lets A B) → (close : Bool) → (old : Several A B) → Request → (text : List ℕ)
      → (new : Several A B) → Type 0
  Leaves leaves close old request text new =
      LeavesIn leaves close old request text new (context_of names request.target)
