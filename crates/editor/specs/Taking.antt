-- What taking a request of an editor does, over any port.
use Rattle.std.specs.Prelude.{◌≡◌, ℕ, ◌+◌, List, [], ◌∷◌, ◌++◌, length, Option, Some, None, Result, Ok, Err, if◌then◌else◌}
use Rattle.edges.specs.declared.acted.Acted.TheVariants.{Refused}
use Rattle.pg_text.specs.declared.failure.Failure.{Failure}
use Rattle.pg_text.specs.declared.failure.Failure.TheVariants.{NoMemory, Fault}
use Rattle.pg_text.specs.Failure.{Answers}
use Rattle.source_tree.specs.declared.edit.Edit.{Edit}
use Rattle.site_words.specs.declared.port.Published.{Published}
use Rattle.site_words.specs.declared.words.Entry.{Entry}
use Rattle.site_words.specs.declared.words.Opening.{Opening}
use Rattle.site_words.specs.declared.words.Op.TheVariants as op
use Rattle.site_words.specs.declared.words.Refusal.{Refusal}
use Rattle.site_words.specs.declared.words.Refusal.TheVariants as refusal
use Rattle.site_words.specs.declared.words.Reply.TheVariants as reply
use Rattle.site_words.specs.Calls.{Acts, Stays}
use Rattle.site_words.specs.State.{after}
use Rattle.site_words.specs.Step.{step}
use Rattle.site_words.specs.Trees.{Needs}
use Rattle.editor.specs.declared.answer.EditorAnswer.{EditorAnswer}
use Rattle.editor.specs.declared.answer.EditorAnswer.TheVariants as answer
use Rattle.editor.specs.declared.fault.EditorFault.{EditorFault}
use Rattle.editor.specs.declared.fault.EditorFault.TheVariants as fault
use Rattle.editor.specs.declared.message.Message.{Message}
use Rattle.editor.specs.declared.message.Message.TheVariants.{Change, Publish}
use Rattle.editor.specs.Draft.{is_draft}

-- how many edits a draft has with one more, or that it has no room for it
abbrev pub drafted : List Edit → Edit → Result ℕ EditorFault
drafted draft edit = if is_draft (draft ++ edit ∷ []) then Ok (length draft + 1) else Err fault.DraftTooLarge

-- what changing a draft comes to, which only a message that names a change does
abbrev pub changed : Result Message EditorFault → List Edit → Result ℕ EditorFault
changed (Err found) draft = Err found
changed (Ok (Change edit)) draft = drafted draft edit
changed (Ok (Publish base)) draft = Err fault.BadMessage

-- the draft behind a change: where the answer is a number it has the edit too, else it is as it was
abbrev pub IsChanged : {A E : Type 0} → Result Message EditorFault → (draft later : List Edit) → Result A E → Type 0
IsChanged said draft later (Err failure) = later ≡ draft
IsChanged (Ok (Change edit)) draft later (Ok count) = later ≡ draft ++ edit ∷ []
IsChanged other draft later (Ok count) = ⊥

-- how the refusal of a publishing is told; no publishing meets a session that is busy
abbrev pub fault_of : Refusal → Option EditorFault
fault_of (refusal.Stale latest) = Some (fault.Stale latest)
fault_of (refusal.TreeTooLarge reason) = Some (fault.TreeTooLarge reason)
fault_of (refusal.JournalFull weight promised) = Some (fault.JournalFull weight promised)
fault_of (refusal.Busy holder) = None

-- the draft was published: the pass's next entry publishes its edits for this base and has this version and these dirty paths for its reply; the draft is empty then
pub record IsPublished (needs : Needs) (x : Opening) (pass : ℕ) (base : Option ℕ) (draft later : List Edit) (seen now : List Entry) (published : Published) : Type 0 where
  pub entry : Acts needs x pass seen now (op.Publish base draft) (reply.Published published.version published.dirty)
  pub emptied : later ≡ []

-- the publishing was refused: at the front that was then seen the site refuses it so; the draft stands, and the pass has no further entry
pub record IsTurnedAway (needs : Needs) (x : Opening) (pass : ℕ) (base : Option ℕ) (draft later : List Edit) (seen now : List Entry) (told : EditorFault) : Type 0 where
  pub stays : Stays needs x pass seen now
  pub refusal : Refusal
  pub step_is : step needs x (after needs x now) pass (op.Publish base draft) ≡ Refused refusal
  pub told_is : fault_of refusal ≡ Some told
  pub kept : later ≡ draft

-- memory ran out: the draft stands, and the pass has no further entry
pub record IsStarved (needs : Needs) (x : Opening) (pass : ℕ) (draft later : List Edit) (seen now : List Entry) : Type 0 where
  pub stays : Stays needs x pass seen now
  pub kept : later ≡ draft

-- what publishing comes to
abbrev pub Publishes : Needs → Opening → (pass : ℕ) → (base : Option ℕ) → (draft later : List Edit) → (seen now : List Entry) → Result EditorAnswer (Failure EditorFault) → Type 0
Publishes needs x pass base draft later seen now (Ok (answer.Published published)) = IsPublished needs x pass base draft later seen now published
Publishes needs x pass base draft later seen now (Ok (answer.Drafted count)) = ⊥
Publishes needs x pass base draft later seen now (Err (Fault told)) = IsTurnedAway needs x pass base draft later seen now told
Publishes needs x pass base draft later seen now (Err NoMemory) = IsStarved needs x pass draft later seen now

-- the count of edits that an answer tells
abbrev pub counted : Result ℕ EditorFault → Result EditorAnswer EditorFault
counted (Ok count) = Ok (answer.Drafted count)
counted (Err found) = Err found

-- a draft was changed or not, and the site wasn't asked
pub record IsDrafted (said : Result Message EditorFault) (draft later : List Edit) (seen now : List Entry) (result : Result EditorAnswer (Failure EditorFault)) : Type 0 where
  pub answers : Answers (counted (changed said draft)) result
  pub change : IsChanged said draft later result
  pub unasked : now ≡ seen

-- what a request comes to that says this
abbrev pub Takes : Needs → Opening → (pass : ℕ) → Result Message EditorFault → (draft later : List Edit) → (seen now : List Entry) → Result EditorAnswer (Failure EditorFault) → Type 0
Takes needs x pass (Ok (Publish base)) draft later seen now result = Publishes needs x pass base draft later seen now result
Takes needs x pass other draft later seen now result = IsDrafted other draft later seen now result
