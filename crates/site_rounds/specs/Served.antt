-- What becomes of the passes of a site in a round.
use Rattle.std.specs.Prelude.{◌≡◌, ◌<◌, ◌+◌, ◌⊎◌, ℕ, List, Bool, true, false}
use Rattle.edges.specs.History.{IsFront}
use Rattle.pages_server.specs.Worked.{Leads}
use Rattle.site_words.specs.Calls.{Stays}
use Rattle.site_words.specs.Trees.{Needs}
use Rattle.site_words.specs.declared.words.Entry.{Entry}
use Rattle.site_words.specs.declared.words.Opening.{Opening}
use Rattle.turn_table.specs.Passes.{Known}
use Rattle.site_rounds.specs.declared.rounds.Talks.{Talks}

-- one connection on a pass: it keeps its number and goes on from what it had seen, as connections that are talked so do
abbrev pub IsTalk : (ℕ → List Entry → List Entry → Type 0) → Known Opening Entry → Known Opening Entry → Type 0
IsTalk talked old new = (new.number ≡ old.number) × IsFront old.seen new.seen × talked old.number old.seen new.seen

-- how the connections of a pass are answered: where drafts are shown, the last pass is for them and the one before it for editors; otherwise the last is for editors. All others are for readers
abbrev pub IsTalkOf : {T : Type 0} → Talks T → (drafts : Bool) → (passes number : ℕ) → T → Type 0
IsTalkOf talks true passes number talk = ((number + 2 < passes) × (talk ≡ talks.readers)) ⊎ (((number + 2 ≡ passes) × (talk ≡ talks.editors)) ⊎ ((number + 1 ≡ passes) × (talk ≡ talks.previews)))
IsTalkOf talks false passes number talk = ((number + 1 < passes) × (talk ≡ talks.readers)) ⊎ ((number + 1 ≡ passes) × (talk ≡ talks.editors))

-- from this history a pass of this number was led by its connections, one after the other, to what it has seen
pub record IsLed {T : Type 0} (talked : T → ℕ → List Entry → List Entry → Type 0) (talks : Talks T) (drafts : Bool) (passes number : ℕ) (old seen : List Entry) : Type 0 where
  pub talk : T
  pub talk_is : IsTalkOf talks drafts passes number talk
  pub longer : IsFront old seen
  pub led : Leads (talked talk number) old seen

-- so it was, and all that it has seen stands in the new history, in which the pass has no other entries
pub record IsServed {T : Type 0} (talked : T → ℕ → List Entry → List Entry → Type 0) (talks : Talks T) (drafts : Bool) (needs : Needs) (x : Opening) (number : ℕ) (old new : List Entry) : Type 0 where
  pub seen : List Entry
  pub led : IsLed talked talks drafts x.passes number old seen
  pub stands : Stays needs x number seen new
