-- When the talk of a journal is right, by the entries before its Roll.
use Rattle.std.specs.Prelude.{ℕ, List}
use Rattle.conversation.specs.declared.ended.Ended.{Ended}
use Rattle.right_journal.specs.Right.{IsNumberOf}
use Rattle.site_journal.specs.declared.talk.Talk.{Talk}
use Rattle.site_words.specs.Trees.{Needs}
use Rattle.site_words.specs.declared.words.Entry.{Entry}
use Rattle.site_words.specs.declared.words.Opening.{Opening}
use Rattle.talk_law.specs.OneTalk.{IsByBytes}
use Rattle.talk_law.specs.RightTalk.{IsRightTalk}

-- the talk is right for this history, with the end that its number names
abbrev pub HasTalk : Needs → Opening → List Entry → Talk → Type 0
HasTalk needs x history talk = (end : Ended) × IsNumberOf talk.ended end × IsRightTalk needs x history talk.bytes talk.moments talk.answers end

-- the number of an end that a connection came to by its bytes
abbrev pub IsByNumber : ℕ → Ended → Type 0
IsByNumber number end = IsByBytes end × IsNumberOf number end
