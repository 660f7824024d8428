-- After which answers a request is tried again.
use Rattle.std.specs.Prelude.{Bool, true, false}
use Rattle.edges.specs.declared.acted.Acted.{Acted}
use Rattle.edges.specs.declared.acted.Acted.TheVariants.{Did, Refused, NoMemory}
use Rattle.site_words.specs.declared.words.Refusal.{Refusal}
use Rattle.site_words.specs.declared.words.Refusal.TheVariants.{Busy, JournalFull, Stale, TreeTooLarge}

-- it was refused because the session is held
abbrev pub is_busy : {A : Type 0} → Acted A Refusal → Bool
is_busy (Did given) = false
is_busy (Refused (Busy holder)) = true
is_busy (Refused (Stale latest)) = false
is_busy (Refused (TreeTooLarge fault)) = false
is_busy (Refused (JournalFull weight promised)) = false
is_busy NoMemory = false
