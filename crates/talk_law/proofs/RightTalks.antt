-- A talk that is right and one that is run again.
use Rattle.std.proofs.Common.{ℕ, List, [], ◌∷◌, Option, Some, refl, ap, subst}
use Rattle.conversation.specs.Conversation.{Tells}
use Rattle.conversation.specs.declared.ended.Ended.{Ended}
use Rattle.conversation.specs.declared.ended.Ended.TheVariants as ended
use Rattle.page_answers.specs.Standing.{standing_of}
use Rattle.page_meaning.specs.Laws.{RequestsGoOn}
use Rattle.talk_law.proofs.Talks.{talks_are_one}
use Rattle.talk_law.specs.OneTalk.{IsByBytes}
use Rattle.talk_law.specs.RightTalk.{RecordsAreRight, RunsComeToIt, RunsShowIt, only, with_two}
use Rattle.talk_words.specs.Connection.{Connection, Stand, stand_of}
use Rattle.talk_words.specs.Noted.{IsToldAgain, telling}
use Rattle.talk_words.specs.Said.{IsLeft, IsSaid}

pub runs_come_to_it : RequestsGoOn → RunsComeToIt
runs_come_to_it go_on needs x history seen bytes moments answers left took ended end right ran =
    let start : Stand = stand_of [] (standing_of [] (telling (with_two moments)) 0) in
    let now : Stand = stand_of right.draft (standing_of history (telling (0 ∷ 0 ∷ [])) right.steps) in
    let other : Stand = stand_of ran.draft (standing_of seen left ran.steps) in
    let same = talks_are_one go_on (only needs x) start now other bytes right.later ran.later 0 0 ran.before ran.after_it (Some []) (Some answers) took ended end
    (record { one = right.alone; first = refl }) tt (with_two moments, refl) right.by_bytes right.talk ran.by_bytes ran.talk in
    record {
      entries = ap (λ (s : Stand). s.at.seen) same.stand;
      moments = ap (λ (s : Stand). s.at.moments) same.stand;
      answers_are = same.answers [] refl;
      ends = same.ended;
    }

-- what ended by its bytes doesn't depend on the sink's count of faults
no_faults : (w : Connection) (start now : Stand) (left later old new : Option (List ℕ)) (before risen : ℕ) (answer : Ended) → IsByBytes answer
    → Tells (IsSaid w) (IsLeft w) start now left later before risen old new answer → Tells (IsSaid w) (IsLeft w) start now left later 0 0 old new answer
no_faults w start now left later old new before risen ended.Done by tells = tells
no_faults w start now left later old new before risen (ended.Refused fault) by tells = tells
no_faults w start now left later old new before risen ended.ReadFault by tells = absurd by
no_faults w start now left later old new before risen ended.WriteFault by tells = absurd by
no_faults w start now left later old new before risen ended.NoMemory by tells = absurd by

pub runs_show_it : RunsShowIt
runs_show_it needs x history seen bytes moments answers left took ended end alone ran again =
    let w : Connection = only needs x in
    let start : Stand = stand_of [] (standing_of [] (telling (with_two moments)) 0) in
    let told = no_faults w start (stand_of ran.draft (standing_of seen left ran.steps)) (Some bytes) ran.later (Some []) took ran.before ran.after_it end ran.by_bytes ran.talk in
    record {
      alone = alone;
      by_bytes = subst IsByBytes again.ends ran.by_bytes;
      draft = ran.draft;
      later = ran.later;
      steps = ran.steps;
      talk =
          subst (λ h. Tells (IsSaid w) (IsLeft w) start (stand_of ran.draft (standing_of h (telling (0 ∷ 0 ∷ [])) ran.steps)) (Some bytes) ran.later 0 0 (Some []) (Some answers) ended) again.entries
          (subst (λ a. Tells (IsSaid w) (IsLeft w) start (stand_of ran.draft (standing_of seen a ran.steps)) (Some bytes) ran.later 0 0 (Some []) (Some answers) ended) again.moments
          (subst (λ t. Tells (IsSaid w) (IsLeft w) start (stand_of ran.draft (standing_of seen left ran.steps)) (Some bytes) ran.later 0 0 (Some []) t ended) again.answers_are
          (subst (λ e. Tells (IsSaid w) (IsLeft w) start (stand_of ran.draft (standing_of seen left ran.steps)) (Some bytes) ran.later 0 0 (Some []) took e) again.ends told)));
    }

pub records_are_right : IsToldAgain → RecordsAreRight
records_are_right told_again needs x history bytes moments answers ended start end draft later steps before risen alone by none noted talk =
    let w : Connection = only needs x in
    let first : Stand = stand_of [] (standing_of [] start 0) in
    let now : Stand = stand_of draft (standing_of history end steps) in
    let again = told_again.talked w first now (Some bytes) later before risen (Some []) (Some answers) ended moments 0 (0 ∷ []) (record { before = []; before_is = none; after_is = noted }) talk in
    record {
      alone = alone;
      by_bytes = by;
      draft = draft;
      later = later;
      steps = steps;
      talk =
          no_faults w (stand_of [] (standing_of [] (telling (with_two moments)) 0)) (stand_of draft (standing_of history (telling (0 ∷ 0 ∷ [])) steps)) (Some bytes) later (Some []) (Some answers) before risen ended by again;
    }
