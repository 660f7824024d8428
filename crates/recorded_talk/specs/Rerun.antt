-- What a talk that was run again came to.
use Rattle.std.specs.Prelude.{◌≡◌, ℕ, List, [], ◌∷◌, Some}
use Rattle.conversation.specs.declared.ended.Ended.{Ended}
use Rattle.recorded_talk.specs.Talked.{IsByNumber}
use Rattle.recorded_talk.specs.declared.talking.Rerun.{Rerun}
use Rattle.site_words.specs.Trees.{Needs}
use Rattle.site_words.specs.declared.words.Entry.{Entry}
use Rattle.site_words.specs.declared.words.Opening.{Opening}
use Rattle.talk_law.specs.RightTalk.{Ran}
use Rattle.talk_words.specs.Noted.{telling}

-- the connection was run from the opening, over a clock with two zeros behind these moments, and came to an end with this number
pub record IsRerun (needs : Needs) (x : Opening) (bytes moments : List ℕ) (again : Rerun) : Type 0 where
  pub end : Ended
  pub by_number : IsByNumber again.number end
  pub ran : Ran needs x bytes moments again.site.history (telling again.clock) (Some again.sink.taken) end

-- it came to this end, these answers and this history, and the two zeros are left
pub record IsSameTalk (again : Rerun) (answers : List ℕ) (ended : ℕ) (history : List Entry) : Type 0 where
  pub number : again.number ≡ ended
  pub answers_are : again.sink.taken ≡ answers
  pub moments : again.clock ≡ 0 ∷ 0 ∷ []
  pub entries : again.site.history ≡ history
