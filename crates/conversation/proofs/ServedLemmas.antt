-- What the answer to one request comes to, in other words.
use Rattle.std.proofs.Common.{ℕ, List, [], Bool, true, false, Option, sym, subst}
use Rattle.edges.proofs.ToldBytes.{appends_none}
use Rattle.http_out.specs.Sent.{Sent}
use Rattle.conversation.specs.Told.{IsTold}
use Rattle.conversation.specs.Exchange.{Exchange, exchange_of}
use Rattle.conversation.specs.Served.{Served}
use Rattle.conversation.specs.declared.desk.Outcome.{Outcome}
use Rattle.conversation.specs.declared.desk.Outcome.TheVariants as outcome
use Rattle.http_in.specs.declared.request.Request.{Request}

-- what is said of each way to answer one request is said of what came of another
pub served_map : {V W : Type 0} (serves : Bool → V → Exchange → V → Type 0) (starves : Bool → V → Request → List ℕ → V → Type 0) (serves' : Bool → W → Exchange → W → Type 0) (starves' : Bool → W → Request → List ℕ → W → Type 0)
    (close : Bool) (request request' : Request) (a b : V) (a' b' : W) (before after : ℕ) (taken now : Option (List ℕ)) (answer : Outcome)
    → ((text : List ℕ) (broken : Bool) → serves close a (exchange_of request text broken) b → serves' close a' (exchange_of request' text broken) b')
    → ((text : List ℕ) → starves close a request text b → starves' close a' request' text b')
    → Served serves starves close request a b before after taken now answer → Served serves' starves' close request' a' b' before after taken now answer
served_map serves starves serves' starves' close request request' a b a' b' before after taken now outcome.Whole f h is = record { text = is.text; served = f is.text false is.served; written = is.written }
served_map serves starves serves' starves' close request request' a b a' b' before after taken now outcome.Broken f h is = record { text = is.text; served = f is.text true is.served; written = is.written }
served_map serves starves serves' starves' close request request' a b a' b' before after taken now outcome.WriteFault f h is = record { text = is.text; broken = is.broken; served = f is.text is.broken is.served; sent = is.sent }
served_map serves starves serves' starves' close request request' a b a' b' before after taken now outcome.NoMemory f h is = record { text = is.text; left = h is.text is.left; failed = is.failed; sent = is.sent; cause = is.cause }

-- a plain answer is served, where it answers; where memory ran out nothing was written
pub told_served : {W : Type 0} (serves : Bool → W → Exchange → W → Type 0) (starves : Bool → W → Request → List ℕ → W → Type 0) (close : Bool) (request : Request) (a b : W) (text : List ℕ) (before after : ℕ) (taken now : Option (List ℕ)) (answer : Outcome)
    → serves close a (exchange_of request text false) b → starves close a request [] b → IsTold text taken now answer → Served serves starves close request a b before after taken now answer
told_served serves starves close request a b text before after taken now outcome.Whole is left told = record { text = text; served = is; written = told }
told_served serves starves close request a b text before after taken now outcome.Broken is left told = absurd told
told_served serves starves close request a b text before after taken now outcome.WriteFault is left told = record { text = text; broken = false; served = is; sent = told }
told_served serves starves close request a b text before after taken now outcome.NoMemory is left told = record {
  text = [];
  left = left;
  failed = false;
  sent = subst (λ (n : Option (List ℕ)). Sent taken n [] false) (sym told) (appends_none taken);
  cause = λ is. absurd (cc);
}
