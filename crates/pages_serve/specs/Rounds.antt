-- The rounds of the command `serve`, and what its sink for journals has of them.
use Rattle.std.specs.Prelude.{◌≡◌, ◌<◌, ◌⊎◌, ℕ, List, Bool, Option}
use Rattle.compiled_pages.specs.Pages.{needs_at}
use Rattle.pages_serve.specs.Onward.{IsOnward}
use Rattle.pages_serve.specs.Talked.{HasTalked, audiences}
use Rattle.pages_server.specs.Worked.{Leads}
use Rattle.site_core.specs.Lived.{Lived}
use Rattle.site_rounds.specs.Served.{IsServed}
use Rattle.site_words.specs.Law.{Legal}

-- a site between two rounds, what the sink for journals has taken, and how often it failed
pub record Between : Type 0 where
  pub site : Lived
  pub taken : Option (List ℕ)
  pub faults : ℕ

-- one round: each pass did in it what connections do of those for whom it is, and nothing else; behind it the journal was written, or not, and a site goes on
pub record IsRound (drafts : Bool) (old new : Between) : Type 0 where
  pub after : Lived
  pub opening : after.opening ≡ old.site.opening
  pub is_legal : Legal needs_at after.opening after.history
  pub served : (number : ℕ) → number < old.site.opening.passes → IsServed (λ audience. HasTalked audience old.site.opening) audiences drafts needs_at old.site.opening number old.site.history after.history
  pub onward : IsOnward needs_at after new.site old.taken new.taken old.faults new.faults

-- rounds of this site, one after the other, or none
pub record AreRounds (drafts : Bool) (site : Lived) (old new : Option (List ℕ)) (before risen : ℕ) : Type 0 where
  pub last : Lived
  pub rounds : Leads (IsRound drafts) (record { site = site; taken = old; faults = before }) (record { site = last; taken = new; faults = risen })

-- the rounds of some site
pub record AreOfSite (old new : Option (List ℕ)) (before risen : ℕ) : Type 0 where
  pub drafts : Bool
  pub site : Lived
  pub rounds : AreRounds drafts site old new before risen

-- what a sink has taken, and how often it failed, is as it was, or comes of the rounds of a site
abbrev pub IsOfRounds : (old new : Option (List ℕ)) (before risen : ℕ) → Type 0
IsOfRounds old new before risen = ((new ≡ old) × (risen ≡ before)) ⊎ AreOfSite old new before risen
