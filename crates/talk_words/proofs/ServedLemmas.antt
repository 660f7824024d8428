-- What the answer to one request comes to, in other words.
use Rattle.std.proofs.Common.{◌≡◌, ℕ, List, Bool, true, false, Option, refl, sym, subst}
use Rattle.conversation.specs.Exchange.{Exchange, exchange_of}
use Rattle.conversation.specs.Served.{Served}
use Rattle.conversation.specs.declared.desk.Outcome.{Outcome}
use Rattle.conversation.specs.declared.desk.Outcome.TheVariants as outcome
use Rattle.http_in.specs.declared.request.Request.{Request}
use Rattle.page_answers.specs.Answers.{Answers}
use Rattle.page_answers.specs.Dropped.{Drops}
use Rattle.page_answers.specs.Standing.{Standing}
use Rattle.pass_course.specs.Course.{IsIdle}
use Rattle.site_words.specs.Law.{Legal}
use Rattle.source_tree.specs.declared.edit.Edit.{Edit}
use Rattle.talk_words.proofs.GrownLemmas.{left_grown, said_grown}
use Rattle.talk_words.specs.Connection.{Connection, Stand, stand_of}
use Rattle.talk_words.specs.Grown.{HasGrown}
use Rattle.talk_words.specs.Served.{ServedOn}
use Rattle.talk_words.specs.Said.{IsLeft, IsSaid, Leaves, Says, way}
use Rattle.talk_words.specs.declared.way.Way.{Way}
use Rattle.talk_words.specs.declared.way.Way.TheVariants.{Asks}

-- what is said of each way to answer is said of what came
pub served_map : {V W : Type 0} (serves : Bool → V → Exchange → V → Type 0) (starves : Bool → V → Request → List ℕ → V → Type 0) (serves' : Bool → W → Exchange → W → Type 0) (starves' : Bool → W → Request → List ℕ → W → Type 0)
    (close : Bool) (request : Request) (a b : V) (a' b' : W) (before after : ℕ) (taken now : Option (List ℕ)) (answer : Outcome)
    → ((text : List ℕ) (broken : Bool) → serves close a (exchange_of request text broken) b → serves' close a' (exchange_of request text broken) b')
    → ((text : List ℕ) → starves close a request text b → starves' close a' request text b')
    → Served serves starves close request a b before after taken now answer → Served serves' starves' close request a' b' before after taken now answer
served_map serves starves serves' starves' close request a b a' b' before after taken now outcome.Whole f h is = record { text = is.text; served = f is.text false is.served; written = is.written }
served_map serves starves serves' starves' close request a b a' b' before after taken now outcome.Broken f h is = record { text = is.text; served = f is.text true is.served; written = is.written }
served_map serves starves serves' starves' close request a b a' b' before after taken now outcome.WriteFault f h is = record { text = is.text; broken = is.broken; served = f is.text is.broken is.served; sent = is.sent }
served_map serves starves serves' starves' close request a b a' b' before after taken now outcome.NoMemory f h is = record { text = is.text; left = h is.text is.left; failed = is.failed; sent = is.sent; cause = is.cause }

-- what holds of each way to answer holds
served_any : {V P : Type 0} (serves : Bool → V → Exchange → V → Type 0) (starves : Bool → V → Request → List ℕ → V → Type 0)
    (close : Bool) (request : Request) (a b : V) (before after : ℕ) (taken now : Option (List ℕ)) (answer : Outcome)
    → ((text : List ℕ) (broken : Bool) → serves close a (exchange_of request text broken) b → P) → ((text : List ℕ) → starves close a request text b → P)
    → Served serves starves close request a b before after taken now answer → P
served_any serves starves close request a b before after taken now outcome.Whole f h is = f is.text false is.served
served_any serves starves close request a b before after taken now outcome.Broken f h is = f is.text true is.served
served_any serves starves close request a b before after taken now outcome.WriteFault f h is = f is.text is.broken is.served
served_any serves starves close request a b before after taken now outcome.NoMemory f h is = h is.text is.left

-- by the way of a request
pub served_on : (w : Connection) (route : Way) (close : Bool) (request : Request) (a b : Stand) (before after : ℕ) (taken now : Option (List ℕ)) (answer : Outcome) → way w request ≡ route
    → ServedOn w route close request a b before after taken now answer → Served (IsSaid w) (IsLeft w) close request a b before after taken now answer
served_on w route close request a b before after taken now answer is served =
    served_map (λ close old (e : Exchange) new. Says w route e.request close old e.text e.broken new) (λ close old request text new. Leaves w route request close old text new) (IsSaid w) (IsLeft w)
    close request a b a b before after taken now answer
    (λ text broken says. subst (λ r. Says w r request close a text broken b) (sym is) says) (λ text leaves. subst (λ r. Leaves w r request close a text b) (sym is) leaves) served

-- what pages answer, with the draft beside it
pub served_beside : (w : Connection) (draft : List Edit) (close : Bool) (request : Request) (a b : Standing) (before after : ℕ) (taken now : Option (List ℕ)) (answer : Outcome)
    → Served (λ close old (e : Exchange) new. Answers w.needs w.opening w.pass e.request close old e.text e.broken new) (λ close old request text new. Drops w.needs w.opening w.pass request close old text new) close request a b before after taken now answer
    → ServedOn w Asks close request (stand_of draft a) (stand_of draft b) before after taken now answer
served_beside w draft close request a b before after taken now answer served =
    served_map (λ close old (e : Exchange) new. Answers w.needs w.opening w.pass e.request close old e.text e.broken new) (λ close old request text new. Drops w.needs w.opening w.pass request close old text new)
    (λ close old (e : Exchange) new. Says w Asks e.request close old e.text e.broken new) (λ close old request text new. Leaves w Asks request close old text new)
    close request a b (stand_of draft a) (stand_of draft b) before after taken now answer (λ text broken is. (is, refl)) (λ text is. (is, refl)) served

-- an answer leaves no request under way
pub served_grown : (w : Connection) (close : Bool) (request : Request) (a b : Stand) (before after : ℕ) (taken now : Option (List ℕ)) (answer : Outcome) → IsIdle w.opening w.pass a.at.seen → Legal w.needs w.opening a.at.seen
    → Served (IsSaid w) (IsLeft w) close request a b before after taken now answer → HasGrown w.needs w.opening w.pass a.at.seen b.at.seen
served_grown w close request a b before after taken now answer idle legal served =
    served_any (IsSaid w) (IsLeft w) close request a b before after taken now answer (λ text broken is. said_grown w close a b (exchange_of request text broken) idle legal is)
    (λ text is. left_grown w close a b request text idle legal is) served
