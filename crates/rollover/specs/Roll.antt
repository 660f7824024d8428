-- What a rollover comes to.
use Rattle.std.specs.Prelude.{◌≡◌, ℕ, ◌^◌, ◌||◌, ◌++◌, Bool, true, false, List, [], Option, nat_le}
use Rattle.std.specs.Io.KnownBytes.{Appends}
use Rattle.edges.specs.Faults.{Rose}
use Rattle.http_out.specs.Sent.{Sent}
use Rattle.rollover.specs.declared.rolling.Rolled.{Rolled}
use Rattle.rollover.specs.declared.rolling.Rolled.TheVariants.{Done, NoMemory, Spent, WriteFault}
use Rattle.site_core.specs.Lived.{Lived}
use Rattle.site_journal.specs.Journal.{journal, rolled}
use Rattle.site_journal.specs.Reading.{HasCode}
use Rattle.site_journal.specs.declared.talk.Talk.{Talk}
use Rattle.site_words.specs.Law.{Legal}
use Rattle.site_words.specs.Opening.{next_opening}
use Rattle.site_words.specs.State.{after}
use Rattle.site_words.specs.Trees.{Needs}
use Rattle.site_words.specs.declared.words.Entry.{Entry}
use Rattle.site_words.specs.declared.words.Opening.{Opening}

-- a count has no room for another site
abbrev pub is_spent : Opening → Bool
is_spent x = nat_le (2 ^ 63) x.version || (nat_le (2 ^ 63) x.begins || nat_le (2 ^ 63) x.freshes)

-- the opening that goes on from a site's Roll
abbrev pub goes_on_as : Needs → Lived → Opening
goes_on_as needs site = next_opening site.opening (after needs site.opening (rolled site.history))

-- the journal was written, and all its parts are such as have a code; its history with the Roll is legal, and the new site goes on from the state behind it with an empty history; with what comes to be its history, both are one legal history from the old opening
pub record IsRolled (needs : Needs) (site next : Lived) (talk : Option Talk) (old new : Option (List ℕ)) : Type 0 where
  pub written : Appends old new (journal site.opening (rolled site.history) talk)
  pub has_code : HasCode site.opening (rolled site.history) talk
  pub is_legal : Legal needs site.opening (rolled site.history)
  pub opening : next.opening ≡ goes_on_as needs site
  pub history : next.history ≡ []
  pub one_history : (later : List Entry) → Legal needs next.opening later → Legal needs site.opening (rolled site.history ++ later)
  pub room : is_spent (goes_on_as needs site) ≡ false

-- the sink failed within the journal, and the site is as it was
pub record IsCutShort (needs : Needs) (site next : Lived) (talk : Option Talk) (old new : Option (List ℕ)) (before after_it : ℕ) : Type 0 where
  pub same : next ≡ site
  pub is_legal : Legal needs site.opening (rolled site.history)
  pub sent : Sent old new (journal site.opening (rolled site.history) talk) true
  pub has_code : HasCode site.opening (rolled site.history) talk
  pub rose : Rose before after_it
  pub room : is_spent (goes_on_as needs site) ≡ false

-- nothing was written, and the site is as it was
pub record IsUnrolled (site next : Lived) (old new : Option (List ℕ)) : Type 0 where
  pub same : next ≡ site
  pub silent : new ≡ old

module _ {P : Type 0} where
  -- what a rollover comes to: old and new are what the sink had and has taken, before and after_it its counts of faults
  abbrev pub Rolls : Needs → Lived → Option Talk → (old new : Option (List ℕ)) → (before after_it : ℕ) → Rolled P → Type 0
  Rolls needs site talk old new before after_it (Done next) = IsRolled needs site next talk old new
  Rolls needs site talk old new before after_it (WriteFault next) = IsCutShort needs site next talk old new before after_it
  Rolls needs site talk old new before after_it (Spent next) = IsUnrolled site next old new × (is_spent (goes_on_as needs site) ≡ true)
  Rolls needs site talk old new before after_it (NoMemory next) = IsUnrolled site next old new
