-- A request for which the journal has no room.
use Rattle.std.specs.Prelude.{◌≡◌, ℕ}
use Rattle.edges.specs.Clock.{Answers}
use Rattle.edges.specs.declared.acted.Acted.TheVariants.{Refused}
use Rattle.http_in.specs.declared.request.Request.{Request}
use Rattle.page_answers.specs.Standing.{Standing}
use Rattle.site_words.specs.Calls.{Stays}
use Rattle.site_words.specs.State.{after as site_after}
use Rattle.site_words.specs.Step.{step}
use Rattle.site_words.specs.Trees.{Needs}
use Rattle.site_words.specs.declared.words.Op.TheVariants as op
use Rattle.site_words.specs.declared.words.Opening.{Opening}
use Rattle.site_words.specs.declared.words.Refusal.{Refusal}

-- its Begin was refused at a moment of the clock, and nothing was read
pub record IsTurnedAway (needs : Needs) (x : Opening) (pass : ℕ) (request : Request) (refusal : Refusal) (old new : Standing) : Type 0 where
  pub moment : ℕ
  pub told : Answers old.moments new.moments moment
  pub stays : Stays needs x pass old.seen new.seen
  pub refused : step needs x (site_after needs x new.seen) pass (op.Begin request.cookie moment) ≡ Refused refusal
  pub read : new.steps ≡ old.steps
