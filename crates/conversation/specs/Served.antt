-- What the answer to one request comes to.
use Rattle.std.specs.Prelude.{◌≡◌, ℕ, Bool, true, false, List, Option}
use Rattle.std.specs.Io.KnownBytes.{Appends}
use Rattle.edges.specs.Faults.{Rose}
use Rattle.http_in.specs.declared.request.Request.{Request}
use Rattle.http_out.specs.Sent.{Sent}
use Rattle.conversation.specs.Exchange.{Exchange, exchange_of}
use Rattle.conversation.specs.declared.desk.Outcome.{Outcome}
use Rattle.conversation.specs.declared.desk.Outcome.TheVariants.{Whole, Broken, WriteFault, NoMemory}

-- the request was answered, and the sink took the response
pub record IsServed {W : Type 0} (serves : Bool → W → Exchange → W → Type 0) (close : Bool) (request : Request) (broken : Bool) (old new : W) (taken now : Option (List ℕ)) : Type 0 where
  pub text : List ℕ
  pub served : serves close old (exchange_of request text broken) new
  pub written : Appends taken now text

-- the request was run to its end, and the sink took only a part of the response
pub record IsServedInPart {W : Type 0} (serves : Bool → W → Exchange → W → Type 0) (close : Bool) (request : Request) (old new : W) (taken now : Option (List ℕ)) : Type 0 where
  pub text : List ℕ
  pub broken : Bool
  pub served : serves close old (exchange_of request text broken) new
  pub sent : Sent taken now text true

-- memory ran out; the text was taken whole unless the sink failed
pub record IsStarved {W : Type 0} (starves : Bool → W → Request → List ℕ → W → Type 0) (close : Bool) (request : Request) (old new : W) (before after : ℕ) (taken now : Option (List ℕ)) : Type 0 where
  pub text : List ℕ
  pub left : starves close old request text new
  pub failed : Bool
  pub sent : Sent taken now text failed
  pub cause : failed ≡ true → Rose before after

-- what an outcome says of the answer to one request: before and after are the sink's count of
-- faults, taken and now its bytes
abbrev pub Served : {W : Type 0} → (Bool → W → Exchange → W → Type 0) → (Bool → W → Request → List ℕ → W → Type 0) → Bool → Request → W → W → ℕ → ℕ → Option (List ℕ) → Option (List ℕ) → Outcome → Type 0
Served serves starves close request old new before after taken now Whole = IsServed serves close request false old new taken now
Served serves starves close request old new before after taken now Broken = IsServed serves close request true old new taken now
Served serves starves close request old new before after taken now WriteFault = IsServedInPart serves close request old new taken now
Served serves starves close request old new before after taken now NoMemory = IsStarved starves close request old new before after taken now
