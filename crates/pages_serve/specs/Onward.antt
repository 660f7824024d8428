-- The site with which the next round is served.
use Rattle.std.specs.Prelude.{◌⊎◌, ℕ, List, Option, None}
use Rattle.rollover.specs.Roll.{IsCutShort, IsRolled, IsUnrolled}
use Rattle.site_core.specs.Lived.{Lived}
use Rattle.site_words.specs.Trees.{Needs}

-- the journal was written and a new site goes on from it; or the site is as it was, and a part of the journal was written, since the sink failed, or nothing: before and risen are the sink's counts of faults
abbrev pub IsOnward : Needs → (site next : Lived) → (old new : Option (List ℕ)) → (before risen : ℕ) → Type 0
IsOnward needs site next old new before risen = IsRolled needs site next None old new ⊎ (IsCutShort needs site next None old new before risen ⊎ IsUnrolled site next old new)
