-- What the command `record` writes.
use Rattle.std.specs.Prelude.{◌≡◌, ◌≤◌, ℕ, false, List, [], ◌∷◌, ◌++◌, length, Option, Some, None}
use Rattle.std.specs.Io.KnownBytes.{Appends, Consumes}
use Rattle.connection_list.specs.List.{BeginsWith, IsListOf, first_connection}
use Rattle.conversation.specs.Conversation.{Tells}
use Rattle.conversation.specs.declared.ended.Ended.{Ended}
use Rattle.conversation.specs.declared.ended.Ended.TheVariants as ended
use Rattle.edges.specs.Clock.{Moments}
use Rattle.http_in.specs.FaultNumber.{fault_number}
use Rattle.http_out.specs.Sent.{BreaksOff}
use Rattle.page_answers.specs.Standing.{standing_of}
use Rattle.compiled_pages.specs.Pages.{needs_at}
use Rattle.pages_record.specs.declared.recorded.Recorded.{Recorded}
use Rattle.pages_record.specs.declared.recorded.Recorded.TheVariants.{Done, NotListed, ReadFault, WriteFault, NoMemory}
use Rattle.pages_talk.specs.Play.{only_connection}
use Rattle.rollover.specs.Roll.{is_spent}
use Rattle.site_journal.specs.Journal.{journal, rolled}
use Rattle.site_journal.specs.Reading.{HasCode}
use Rattle.site_journal.specs.declared.talk.Talk.{Talk}
use Rattle.site_words.specs.Law.{Legal}
use Rattle.site_words.specs.Opening.{next_opening}
use Rattle.site_words.specs.State.{after}
use Rattle.site_words.specs.declared.words.Entry.{Entry}
use Rattle.site_words.specs.declared.words.Opening.{Opening}
use Rattle.source_tree.specs.declared.edit.Edit.{Edit}
use Rattle.talk_words.specs.Connection.{stand_of}
use Rattle.talk_words.specs.Said.{IsLeft, IsSaid}
use Rattle.whole_input.specs.Come.{HasCome}

-- the most bytes of the input
abbrev pub most_bytes : ℕ
most_bytes = 67108864

-- how a connection ended by its bytes, as a talk names it: 0 where it was done, else the number of the fault
abbrev pub end_number : Ended → Option ℕ
end_number ended.Done = Some 0
end_number (ended.Refused fault) = Some (fault_number fault)
end_number ended.ReadFault = None
end_number ended.WriteFault = None
end_number ended.NoMemory = None

-- a connection with these bytes to a new site with this opening left this history and this talk: its clock noted the moments, and its answers were taken; steps and now are the counts of bytes read
pub record IsTalked (x : Opening) (history : List Entry) (talk : Talk) (steps now : ℕ) : Type 0 where
  pub start : Moments
  pub still : Moments
  pub before_it : start.noted ≡ Some []
  pub noted : still.noted ≡ Some talk.moments
  pub draft : List Edit
  pub later : Option (List ℕ)
  pub before : ℕ
  pub risen : ℕ
  pub ended : Ended
  pub end_is : end_number ended ≡ Some talk.ended
  pub tells : Tells (IsSaid (only_connection x)) (IsLeft (only_connection x)) (stand_of [] (standing_of [] start steps)) (stand_of draft (standing_of history still now)) (Some talk.bytes) later before risen (Some []) (Some talk.answers) ended

-- a connection to a site with this opening was recorded as this journal, all parts of which are such as have a code, and behind which the site goes on with the next opening, no count of which is spent
pub record IsRecorded (x : Opening) (bytes : List ℕ) (steps now : ℕ) (next : Opening) (text : List ℕ) : Type 0 where
  pub history : List Entry
  pub talk : Talk
  pub bytes_are : talk.bytes ≡ bytes
  pub talked : IsTalked x history talk steps now
  pub is_legal : Legal needs_at x (rolled history)
  pub goes_on : next ≡ next_opening x (after needs_at x (rolled history))
  pub room : is_spent next ≡ false
  pub text_is : text ≡ journal x (rolled history) (Some talk)
  pub has_code : HasCode x (rolled history) (Some talk)

-- connections were recorded one after the other, each to the site that went on from the one before
abbrev pub Records : (x : Opening) → List (List ℕ) → (steps now : ℕ) → (last : Opening) → (text : List ℕ) → Type 0
Records x [] steps now last text = (last ≡ x) × (now ≡ steps) × (text ≡ [])
Records x (bytes ∷ connections) steps now last text =
    (next : Opening) × (mid : ℕ) × (first : List ℕ) × (others : List ℕ) × IsRecorded x bytes steps mid next first × Records next connections mid now last others × (text ≡ first ++ others)

-- all connections of the input were recorded
pub record AreRecorded (x : Opening) (input : List ℕ) (old new : Option (List ℕ)) (steps now : ℕ) : Type 0 where
  pub connections : List (List ℕ)
  pub listed : BeginsWith input connections []
  pub last : Opening
  pub text : List ℕ
  pub recorded : Records x connections steps now last text
  pub written : Appends old new text

-- the journals of the first connections were written, and a part of the next one
pub record AreBrokenOff (x : Opening) (input : List ℕ) (old new : Option (List ℕ)) (steps now : ℕ) : Type 0 where
  pub connections : List (List ℕ)
  pub bytes : List ℕ
  pub behind : List ℕ
  pub rest : List ℕ
  pub begins : BeginsWith input connections behind
  pub then : first_connection behind ≡ Some (bytes, rest)
  pub last : Opening
  pub next : Opening
  pub mid : ℕ
  pub text : List ℕ
  pub cut : List ℕ
  pub recorded : Records x connections steps mid last text
  pub broken : IsRecorded last bytes mid now next cut
  pub written : BreaksOff old new text cut

-- the journals of the first connections were written, if any
pub record AreCutShort (x : Opening) (input : List ℕ) (old new : Option (List ℕ)) (steps : ℕ) : Type 0 where
  pub connections : List (List ℕ)
  pub rest : List ℕ
  pub begins : BeginsWith input connections rest
  pub last : Opening
  pub mid : ℕ
  pub text : List ℕ
  pub recorded : Records x connections steps mid last text
  pub written : Appends old new text

-- what recording the connections of an input comes to, from a site with this opening: old and new are what the sink had and has taken
abbrev pub ComesOn : (x : Opening) → (input : List ℕ) → (old new : Option (List ℕ)) → (steps now : ℕ) → Recorded → Type 0
ComesOn x input old new steps now Done = AreRecorded x input old new steps now
ComesOn x input old new steps now NotListed = ⊥
ComesOn x input old new steps now ReadFault = ⊥
ComesOn x input old new steps now WriteFault = AreBrokenOff x input old new steps now
ComesOn x input old new steps now NoMemory = AreCutShort x input old new steps

-- the whole input came, and recording its connections came to this
pub record IsThrough (x : Opening) (left later old new : Option (List ℕ)) (steps now : ℕ) (ended : Recorded) : Type 0 where
  pub came : List ℕ
  pub come : HasCome most_bytes left later came
  pub short : length came ≤ most_bytes
  pub listed : (connections : List (List ℕ)) × IsListOf came connections
  pub comes : ComesOn x came old new steps now ended

-- what came is too long or no list of connections, and nothing was written
pub record IsNotListed (left later old new : Option (List ℕ)) (steps now : ℕ) : Type 0 where
  pub came : List ℕ
  pub come : HasCome most_bytes left later came
  pub unlisted : length came ≤ most_bytes → (connections : List (List ℕ)) → IsListOf came connections → ⊥
  pub silent : Appends old new []
  pub unread : now ≡ steps

-- a part of the input came, and nothing was written
pub record StoppedReading (left later old new : Option (List ℕ)) (steps now : ℕ) : Type 0 where
  pub came : List ℕ
  pub consumed : Consumes left later came
  pub silent : Appends old new []
  pub unread : now ≡ steps

-- a part of the input came, or all of it, and of its connections the first were recorded, if any
pub record StoppedForMemory (x : Opening) (left later old new : Option (List ℕ)) (steps : ℕ) : Type 0 where
  pub came : List ℕ
  pub consumed : Consumes left later came
  pub short : AreCutShort x came old new steps

-- what the command comes to, from a site with this opening: left and later are what the source had and has left
abbrev pub Comes : (x : Opening) → (left later old new : Option (List ℕ)) → (steps now : ℕ) → Recorded → Type 0
Comes x left later old new steps now Done = IsThrough x left later old new steps now Done
Comes x left later old new steps now NotListed = IsNotListed left later old new steps now
Comes x left later old new steps now ReadFault = StoppedReading left later old new steps now
Comes x left later old new steps now WriteFault = IsThrough x left later old new steps now WriteFault
Comes x left later old new steps now NoMemory = StoppedForMemory x left later old new steps

-- the status of the program
abbrev pub exit_status : Recorded → ℕ
exit_status Done = 0
exit_status NotListed = 2
exit_status ReadFault = 3
exit_status WriteFault = 4
exit_status NoMemory = 5
