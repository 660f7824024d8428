-- What a request comes to that isn't begun.
use Rattle.std.proofs.Common.{◌≡◌, codes, inl, inr, ℕ, Bool, true, false, List, [], Option, refl}
use Rattle.conversation.proofs.ServedLemmas.{told_served}
use Rattle.conversation.specs.Exchange.{Exchange}
use Rattle.conversation.specs.Served.{Served}
use Rattle.conversation.specs.Told.{IsTold}
use Rattle.conversation.specs.declared.desk.Outcome.{Outcome}
use Rattle.dispatch.proofs.ServedLemmas.{answers_other, answers_taken, drops_other, drops_taken}
use Rattle.dispatch.specs.Refused.{IsTurnedAway}
use Rattle.http_in.specs.declared.request.Request.{Request}
use Rattle.http_out.specs.Full.{full_line}
use Rattle.http_out.specs.Methods.{shows_body, takes_method}
use Rattle.http_out.specs.Response.{plain}
use Rattle.http_out.specs.declared.status.Status.TheVariants as status
use Rattle.page_answers.specs.Answers.{Answers}
use Rattle.page_answers.specs.Dropped.{Drops}
use Rattle.page_answers.specs.Standing.{Standing}
use Rattle.site_words.specs.Answers.{IsFull}
use Rattle.site_words.specs.Trees.{Needs}
use Rattle.site_words.specs.declared.words.Opening.{Opening}
use Rattle.site_words.specs.declared.words.Refusal.{Refusal}
use Rattle.site_words.specs.declared.words.Refusal.TheVariants as refusal_is

-- where the journal is full, its weight and what it has promised are told
pub record IsFullBy (refusal : Refusal) : Type 0 where
  pub weight : ℕ
  pub promised : ℕ
  pub is : refusal ≡ refusal_is.JournalFull weight promised

pub full_by : (refusal : Refusal) → IsFull refusal → IsFullBy refusal
full_by (refusal_is.JournalFull weight promised) full = record { weight = weight; promised = promised; is = refl }
full_by (refusal_is.Stale latest) full = absurd full
full_by (refusal_is.TreeTooLarge fault) full = absurd full
full_by (refusal_is.Busy holder) full = absurd full

-- a request of a method that no page takes, by what was told
pub other_served : (needs : Needs) (x : Opening) (pass : ℕ) (request : Request) (close : Bool) (at : Standing) (before after : ℕ) (taken now : Option (List ℕ)) (answer : Outcome) → takes_method request.method ≡ false
    → IsTold (plain status.MethodNotAllowed close (codes "MethodNotAllowed") (shows_body request.method)) taken now answer
    → Served (λ close old (e : Exchange) new. Answers needs x pass e.request close old e.text e.broken new) (λ close old asked text new. Drops needs x pass asked close old text new) close request at at before after taken now answer
other_served needs x pass request close at before after taken now answer other told =
    let text : List ℕ = plain status.MethodNotAllowed close (codes "MethodNotAllowed") (shows_body request.method) in
    told_served (λ close old (e : Exchange) new. Answers needs x pass e.request close old e.text e.broken new) (λ close old asked text new. Drops needs x pass asked close old text new) close request at at text before after taken now answer
    (answers_other needs x pass request close at text false at other (record { same = refl; text_is = refl; broken_is = refl })) (drops_other needs x pass request close at [] other refl) told

module _ (needs : Needs) (x : Opening) (pass : ℕ) (request : Request) (close : Bool) (refusal : Refusal) (old new : Standing) (away : IsTurnedAway needs x pass request refusal old new) (takes : takes_method request.method ≡ true) where
  -- where memory ran out nothing was written
  full_drops : Drops needs x pass request close old [] new
  full_drops = drops_taken needs x pass request close old [] new takes (record { moment = away.moment; told = away.told; done = inl (record { stays = away.stays; read = away.read; text_is = refl }) })

  module _ (weight promised : ℕ) (is : refusal ≡ refusal_is.JournalFull weight promised) where
    full_answers : Answers needs x pass request close old (plain status.ServiceUnavailable close (full_line weight promised) (shows_body request.method)) false new
    full_answers =
        answers_taken needs x pass request close old (plain status.ServiceUnavailable close (full_line weight promised) (shows_body request.method)) false new takes
        (record { moment = away.moment; told = away.told; done = inr (record { stays = away.stays; weight = weight; promised = promised; refused = rw is at away.refused; read = away.read; text_is = refl; broken_is = refl }) })

    -- a request for which the journal has no room, by what was told
    pub full_served : (before after : ℕ) (taken now : Option (List ℕ)) (line : List ℕ) (answer : Outcome) → line ≡ full_line weight promised
        → IsTold (plain status.ServiceUnavailable close line (shows_body request.method)) taken now answer
        → Served (λ close old (e : Exchange) new. Answers needs x pass e.request close old e.text e.broken new) (λ close old asked text new. Drops needs x pass asked close old text new) close request old new before after taken now answer
    full_served before after taken now line answer line_is told =
        told_served (λ close old (e : Exchange) new. Answers needs x pass e.request close old e.text e.broken new) (λ close old asked text new. Drops needs x pass asked close old text new) close request old new
        (plain status.ServiceUnavailable close (full_line weight promised) (shows_body request.method)) before after taken now answer full_answers full_drops (rw line_is at told)
