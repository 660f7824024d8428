-- When the talk of a journal is right.
use Rattle.std.specs.Prelude.{◌≡◌, ℕ, List, [], ◌∷◌, ◌++◌, Option, Some}
use Rattle.conversation.specs.Conversation.{Tells}
use Rattle.conversation.specs.declared.ended.Ended.{Ended}
use Rattle.edges.specs.Clock.{Moments}
use Rattle.talk_law.specs.OneTalk.{IsByBytes}
use Rattle.page_answers.specs.Standing.{standing_of}
use Rattle.site_words.specs.Trees.{Needs}
use Rattle.site_words.specs.declared.words.Entry.{Entry}
use Rattle.site_words.specs.declared.words.Opening.{Opening}
use Rattle.source_tree.specs.declared.edit.Edit.{Edit}
use Rattle.talk_words.specs.Connection.{Connection, connection_of, stand_of}
use Rattle.talk_words.specs.Noted.{telling}
use Rattle.talk_words.specs.Said.{IsLeft, IsSaid}
use Rattle.talk_words.specs.declared.role.Role.TheVariants.{Both}

-- the one connection to a site with this opening, an editor's too
abbrev pub only : Needs → Opening → Connection
only needs x = connection_of needs x 0 Both

-- moments, and two more behind them: where exactly the moments were taken, these two are left
abbrev pub with_two : List ℕ → List ℕ
with_two moments = moments ++ 0 ∷ 0 ∷ []

-- one pass acts; what is said for these bytes at these moments is these answers; it uses all these entries and all these moments, and ends so
pub record IsRightTalk (needs : Needs) (x : Opening) (history : List Entry) (bytes moments answers : List ℕ) (ended : Ended) : Type 0 where
  pub alone : x.passes ≡ 1
  pub by_bytes : IsByBytes ended
  pub draft : List Edit
  pub later : Option (List ℕ)
  pub steps : ℕ
  pub talk : Tells (IsSaid (only needs x)) (IsLeft (only needs x)) (stand_of [] (standing_of [] (telling (with_two moments)) 0)) (stand_of draft (standing_of history (telling (0 ∷ 0 ∷ [])) steps))
      (Some bytes) later 0 0 (Some []) (Some answers) ended

-- what a connection came to that was run again from the opening: the entries that it left, what its clock tells then, its answers and its end
pub record Ran (needs : Needs) (x : Opening) (bytes moments : List ℕ) (seen : List Entry) (left : Moments) (answers : Option (List ℕ)) (ended : Ended) : Type 0 where
  pub by_bytes : IsByBytes ended
  pub draft : List Edit
  pub later : Option (List ℕ)
  pub steps : ℕ
  pub before : ℕ
  pub after_it : ℕ
  pub talk : Tells (IsSaid (only needs x)) (IsLeft (only needs x)) (stand_of [] (standing_of [] (telling (with_two moments)) 0)) (stand_of draft (standing_of seen left steps))
      (Some bytes) later before after_it (Some []) answers ended

-- the run left these entries, gave these answers and came to this end, and exactly these moments were taken
pub record RunsAgain (history seen : List Entry) (answers : List ℕ) (left : Moments) (took : Option (List ℕ)) (ended end : Ended) : Type 0 where
  pub entries : seen ≡ history
  pub moments : left ≡ telling (0 ∷ 0 ∷ [])
  pub answers_are : took ≡ Some answers
  pub ends : end ≡ ended

-- where a talk is right, a run comes to it
abbrev pub RunsComeToIt : Type 0
RunsComeToIt =
    (needs : Needs) (x : Opening) (history seen : List Entry) (bytes moments answers : List ℕ) (left : Moments) (took : Option (List ℕ)) (ended end : Ended)
    → IsRightTalk needs x history bytes moments answers ended → Ran needs x bytes moments seen left took end → RunsAgain history seen answers left took ended end

-- and where a run comes to it, it is right
abbrev pub RunsShowIt : Type 0
RunsShowIt =
    (needs : Needs) (x : Opening) (history seen : List Entry) (bytes moments answers : List ℕ) (left : Moments) (took : Option (List ℕ)) (ended end : Ended)
    → x.passes ≡ 1 → Ran needs x bytes moments seen left took end → RunsAgain history seen answers left took ended end → IsRightTalk needs x history bytes moments answers ended

-- what was recorded is right: where one pass acts on a new site, a clock noted its moments, and the connection came to its end by its bytes
abbrev pub RecordsAreRight : Type 0
RecordsAreRight =
    (needs : Needs) (x : Opening) (history : List Entry) (bytes moments answers : List ℕ) (ended : Ended) (start end : Moments) (draft : List Edit) (later : Option (List ℕ)) (steps before risen : ℕ)
    → x.passes ≡ 1 → IsByBytes ended → start.noted ≡ Some [] → end.noted ≡ Some moments
    → Tells (IsSaid (only needs x)) (IsLeft (only needs x)) (stand_of [] (standing_of [] start 0)) (stand_of draft (standing_of history end steps)) (Some bytes) later before risen (Some []) (Some answers) ended
    → IsRightTalk needs x history bytes moments answers ended
