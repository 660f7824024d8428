-- A response that was sent in parts, whole or in part.
use Rattle.std.proofs.Common.{◌≡◌, ℕ, Bool, true, false, List, Option, sym, refl, ◌∙◌}
use Rattle.std.specs.Prelude.{if◌then◌else◌}
use Rattle.http_in.specs.declared.request.Request.{Request}
use Rattle.http_out.specs.Sent.{Sent}
use Rattle.conversation.specs.declared.desk.Outcome.{Outcome}
use Rattle.conversation.specs.declared.desk.Outcome.TheVariants.{Whole, Broken, WriteFault}
use Rattle.conversation.specs.Served.{Served}

pub whole_unless : (close : Bool) (request : Request) (before after : ℕ) (taken now : Option (List ℕ)) (text : List ℕ) (failed : Bool) (outcome : Outcome) → Sent taken now text failed
    → outcome ≡ (if failed then WriteFault else Whole)
    → Served {W = Unit {0}} (λ close old e new. Unit {0}) (λ close old request text new. Unit {0}) close request tt tt before after taken now outcome
whole_unless close request before after taken now text false outcome sent is = rw is (record { text = text; served = tt; written = sent })
whole_unless close request before after taken now text true outcome sent is = rw is (record { text = text; broken = false; served = tt; sent = sent })

pub broken_unless : (close : Bool) (request : Request) (before after : ℕ) (taken now : Option (List ℕ)) (text : List ℕ) (failed : Bool) (outcome : Outcome) → Sent taken now text failed
    → outcome ≡ (if failed then WriteFault else Broken)
    → Served {W = Unit {0}} (λ close old e new. Unit {0}) (λ close old request text new. Unit {0}) close request tt tt before after taken now outcome
broken_unless close request before after taken now text false outcome sent is = rw is (record { text = text; served = tt; written = sent })
broken_unless close request before after taken now text true outcome sent is = rw is (record { text = text; broken = true; served = tt; sent = sent })

-- a write fault is told only where the sink failed
pub failed_so : (failed : Bool) (outcome other : Outcome) (rose : Type 0) → outcome ≡ (if failed then WriteFault else other) → (other ≡ WriteFault → rose) → (failed ≡ true → rose) → outcome ≡ WriteFault → rose
failed_so false outcome other rose is otherwise cause told = otherwise (sym is ∙ told)
failed_so true outcome other rose is otherwise cause told = cause refl
