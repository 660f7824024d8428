-- That the journals which the command `record` writes are right.
use Rattle.std.specs.Prelude.{◌≡◌, ◌≤◌, ℕ, true, List, [], ◌∷◌, ◌++◌, flat_map, length, Option, Some, None, ⊤}
use Rattle.std.specs.Io.KnownBytes.{Appends, Consumes}
use Rattle.compiled_pages.specs.Pages.{needs_at}
use Rattle.connection_list.specs.List.{BeginsWith, IsListOf, first_connection}
use Rattle.http_out.specs.Sent.{BreaksOff}
use Rattle.pages_record.specs.Recorded.{Comes, Records, most_bytes}
use Rattle.pages_record.specs.declared.recorded.Recorded.TheVariants.{Done, NoMemory, WriteFault}
use Rattle.pages_talk.specs.Play.{opening_of}
use Rattle.right_journal.specs.Right.{IsRight, Journal}
use Rattle.right_journal.specs.Verdict.{CanBe, Holds, entries_in, of_journal, yes}
use Rattle.site_journal.specs.declared.talk.Talk.{Talk}
use Rattle.site_words.specs.Opening.{is_sound}
use Rattle.site_words.specs.declared.words.Opening.{Opening}
use Rattle.whole_input.specs.Come.{HasCome}

-- there is a talk, on a connection of these bytes
abbrev pub IsTalkOn : (bytes : List ℕ) → Option Talk → Type 0
IsTalkOn bytes None = ⊥
IsTalkOn bytes (Some talk) = talk.bytes ≡ bytes

-- a journal for each connection, in order: each can be a journal, is right behind the one before it, and has the talk on its connection
abbrev pub AreRightOf : (before : Option Journal) → (connections : List (List ℕ)) → List Journal → Type 0
AreRightOf before [] [] = ⊤
AreRightOf before [] (j ∷ journals) = ⊥
AreRightOf before (bytes ∷ connections) [] = ⊥
AreRightOf before (bytes ∷ connections) (j ∷ journals) = CanBe j × IsRight needs_at before j × IsTalkOn bytes j.talk × AreRightOf (Some j) connections journals

-- the text is right journals, one for each connection, and that is the verdict on it
pub record IsRightRecord (connections : List (List ℕ)) (text : List ℕ) : Type 0 where
  pub journals : List Journal
  pub right : AreRightOf None connections journals
  pub is : text ≡ flat_map of_journal journals
  pub verdict : Holds needs_at text (yes (length connections) (entries_in journals))

-- what was recorded of connections, one after the other, from a sound opening on, with one pass, is right
abbrev pub RecordsAreRight : Type 0
RecordsAreRight =
    (x : Opening) (connections : List (List ℕ)) (steps now : ℕ) (last : Opening) (text : List ℕ) → is_sound x ≡ true → x.passes ≡ 1
    → Records x connections steps now last text → IsRightRecord connections text

-- the input is a list of connections, and the sink took right journals of these and nothing else
pub record WritesRight (left later old new : Option (List ℕ)) : Type 0 where
  pub came : List ℕ
  pub come : HasCome most_bytes left later came
  pub short : length came ≤ most_bytes
  pub connections : List (List ℕ)
  pub listed : IsListOf came connections
  pub text : List ℕ
  pub right : IsRightRecord connections text
  pub written : Appends old new text

-- the sink took right journals of the first connections, if any, and a part of the next one's, which is right behind them
pub record BreaksOffRight (left later old new : Option (List ℕ)) : Type 0 where
  pub came : List ℕ
  pub come : HasCome most_bytes left later came
  pub short : length came ≤ most_bytes
  pub connections : List (List ℕ)
  pub bytes : List ℕ
  pub behind : List ℕ
  pub rest : List ℕ
  pub begins : BeginsWith came connections behind
  pub then : first_connection behind ≡ Some (bytes, rest)
  pub text : List ℕ
  pub cut : List ℕ
  pub right : IsRightRecord connections text
  pub right_behind : IsRightRecord (connections ++ bytes ∷ []) (text ++ cut)
  pub written : BreaksOff old new text cut

-- the sink took right journals of the first connections, if any, and nothing else
pub record StopsRight (left later old new : Option (List ℕ)) : Type 0 where
  pub came : List ℕ
  pub consumed : Consumes left later came
  pub connections : List (List ℕ)
  pub behind : List ℕ
  pub begins : BeginsWith came connections behind
  pub text : List ℕ
  pub right : IsRightRecord connections text
  pub written : Appends old new text

-- the site of the command has a sound opening, and one pass; so what the command writes whole is
-- right, where it is done, where its sink failed, and where memory ran out
pub record CommandsAreRight : Type 0 where
  pub first : (seed : List ℕ) → (is_sound (opening_of seed) ≡ true) × ((opening_of seed).passes ≡ 1)
  pub done : (seed : List ℕ) (left later old new : Option (List ℕ)) (steps now : ℕ) → Comes (opening_of seed) left later old new steps now Done → WritesRight left later old new
  pub broken : (seed : List ℕ) (left later old new : Option (List ℕ)) (steps now : ℕ) → Comes (opening_of seed) left later old new steps now WriteFault → BreaksOffRight left later old new
  pub stopped : (seed : List ℕ) (left later old new : Option (List ℕ)) (steps now : ℕ) → Comes (opening_of seed) left later old new steps now NoMemory → StopsRight left later old new
