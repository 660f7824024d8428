-- What a request is answered on a connection, and what it leaves.
use Rattle.std.specs.Prelude.{◌≡◌, ℕ, Bool, true, false, List, [], codes, nat_eq, Result, Ok, Err}
use Rattle.std.specs.List.{starts_with}
use Rattle.conversation.specs.Exchange.{Exchange}
use Rattle.editor.specs.Message.{message}
use Rattle.editor.specs.Taking.{Takes}
use Rattle.editor.specs.Telling.{answer_text, fault_text, status_of}
use Rattle.editor.specs.declared.answer.EditorAnswer.{EditorAnswer}
use Rattle.editor.specs.declared.fault.EditorFault.{EditorFault}
use Rattle.http_in.specs.declared.request.Request.{Request}
use Rattle.http_out.specs.Response.{plain}
use Rattle.http_out.specs.declared.status.Status.{Status}
use Rattle.http_out.specs.declared.status.Status.TheVariants as status
use Rattle.page_answers.specs.Answers.{Answers}
use Rattle.http_out.specs.Methods.{shows_body}
use Rattle.page_answers.specs.Dropped.{Drops}
use Rattle.pg_text.specs.declared.failure.Failure.{Failure}
use Rattle.pg_text.specs.declared.failure.Failure.TheVariants.{Fault}
use Rattle.talk_words.specs.Connection.{Connection, Stand}
use Rattle.talk_words.specs.declared.role.Role.{Role}
use Rattle.talk_words.specs.declared.role.Role.TheVariants.{Reader, Both}
use Rattle.talk_words.specs.declared.way.Way.{Way}
use Rattle.talk_words.specs.declared.way.Way.TheVariants.{Edits, Nowhere, Asks}

-- the target, as it was sent, is one of the editor's
unfoldable pub is_editors : List ℕ → Bool
is_editors target = starts_with nat_eq target (codes "/_editor/")

-- where a target goes that is the editor's or isn't: to the editor, and to nobody where the connection only reads
abbrev pub way_of : Role → Bool → Way
way_of Both true = Edits
way_of Reader true = Nowhere
way_of role false = Asks

-- where a request goes on a connection
abbrev pub way : Connection → Request → Way
way w request = way_of w.role (is_editors request.target)

-- what an editor's message came to where memory didn't run out
abbrev pub taken_as : Result EditorAnswer EditorFault → Result EditorAnswer (Failure EditorFault)
taken_as (Ok answer) = Ok answer
taken_as (Err fault) = Err (Fault fault)

-- the status with which it is told what an editor's message came to
abbrev pub told_status : Result EditorAnswer EditorFault → Status
told_status (Ok answer) = status.Ok
told_status (Err fault) = status_of fault

-- the lines that tell it, without the end of the last
abbrev pub told_lines : Result EditorAnswer EditorFault → List ℕ
told_lines (Ok answer) = answer_text answer
told_lines (Err fault) = fault_text fault

-- the whole answer that tells it
abbrev pub told_text : Result EditorAnswer EditorFault → (close shown : Bool) → List ℕ
told_text told close shown = plain (told_status told) close (told_lines told) shown

-- no moment was taken, and nothing was read
pub record IsQuiet (old new : Stand) : Type 0 where
  pub moments : new.at.moments ≡ old.at.moments
  pub read : new.at.steps ≡ old.at.steps

-- the editor took the message: a draft was changed or published, or the message has a fault; and that was told
pub record IsEdited (w : Connection) (request : Request) (close : Bool) (old : Stand) (text : List ℕ) (broken : Bool) (new : Stand) : Type 0 where
  pub told : Result EditorAnswer EditorFault
  pub takes : Takes w.needs w.opening w.pass (message request) old.draft new.draft old.at.seen new.at.seen (taken_as told)
  pub quiet : IsQuiet old new
  pub text_is : text ≡ told_text told close (shows_body request.method)
  pub broken_is : broken ≡ false

-- nothing is found, and nothing was asked of the site
pub record IsNowhere (request : Request) (close : Bool) (old : Stand) (text : List ℕ) (broken : Bool) (new : Stand) : Type 0 where
  pub same : new ≡ old
  pub text_is : text ≡ plain status.NotFound close (codes "NotFound") (shows_body request.method)
  pub broken_is : broken ≡ false

-- one request and its response
abbrev pub Says : Connection → Way → Request → (close : Bool) → (old : Stand) → (text : List ℕ) → (broken : Bool) → (new : Stand) → Type 0
Says w Edits request close old text broken new = IsEdited w request close old text broken new
Says w Nowhere request close old text broken new = IsNowhere request close old text broken new
Says w Asks request close old text broken new = Answers w.needs w.opening w.pass request close old.at text broken new.at × (new.draft ≡ old.draft)

-- memory ran out for an editor's message: before it was done, or after that, before it was told;
-- nothing was written
pub record IsUntold (w : Connection) (request : Request) (old : Stand) (text : List ℕ) (new : Stand) : Type 0 where
  pub result : Result EditorAnswer (Failure EditorFault)
  pub takes : Takes w.needs w.opening w.pass (message request) old.draft new.draft old.at.seen new.at.seen result
  pub quiet : IsQuiet old new
  pub text_is : text ≡ []

-- memory ran out for a request, and this was to be written
abbrev pub Leaves : Connection → Way → Request → (close : Bool) → (old : Stand) → (text : List ℕ) → (new : Stand) → Type 0
Leaves w Edits request close old text new = IsUntold w request old text new
Leaves w Nowhere request close old text new = (new ≡ old) × (text ≡ [])
Leaves w Asks request close old text new = Drops w.needs w.opening w.pass request close old.at text new.at × (new.draft ≡ old.draft)

-- an exchange of a connection
abbrev pub IsSaid : Connection → (close : Bool) → (old : Stand) → Exchange → (new : Stand) → Type 0
IsSaid w close old e new = Says w (way w e.request) e.request close old e.text e.broken new

-- a request of a connection for which memory ran out
abbrev pub IsLeft : Connection → (close : Bool) → (old : Stand) → Request → (text : List ℕ) → (new : Stand) → Type 0
IsLeft w close old request text new = Leaves w (way w request) request close old text new
