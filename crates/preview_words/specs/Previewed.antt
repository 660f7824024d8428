-- What a request is answered on a preview connection, and what it leaves.
use Rattle.std.specs.Prelude.{◌≡◌, ◌⊎◌, ℕ, Bool, false, List, [], codes, Option, Result}
use Rattle.std.specs.Bool.{MatchBool}
use Rattle.conversation.specs.Conversation.{Tells}
use Rattle.conversation.specs.Exchange.{Exchange}
use Rattle.conversation.specs.Served.{Served}
use Rattle.conversation.specs.declared.desk.Outcome.{Outcome}
use Rattle.conversation.specs.declared.ended.Ended.{Ended}
use Rattle.edges.specs.declared.acted.Acted.TheVariants.{Refused}
use Rattle.editor.specs.Message.{message}
use Rattle.editor.specs.Taking.{IsDrafted}
use Rattle.editor.specs.declared.answer.EditorAnswer.{EditorAnswer}
use Rattle.editor.specs.declared.fault.EditorFault.{EditorFault}
use Rattle.http_in.specs.declared.request.Request.{Request}
use Rattle.http_out.specs.Full.{full_line}
use Rattle.http_out.specs.Response.{plain}
use Rattle.http_out.specs.declared.status.Status.TheVariants as status
use Rattle.http_out.specs.Methods.{shows_body, takes_method}
use Rattle.pg_text.specs.declared.failure.Failure.{Failure}
use Rattle.preview_words.specs.Own.{Picture, picture_of}
use Rattle.preview_words.specs.Shown.{Hides, IsPlain, Shows}
use Rattle.site_words.specs.Calls.{Acts, Stays}
use Rattle.site_words.specs.State.{after as site_after}
use Rattle.site_words.specs.Step.{step}
use Rattle.site_words.specs.Trees.{Needs}
use Rattle.site_words.specs.declared.words.Entry.{Entry}
use Rattle.site_words.specs.declared.words.Op.TheVariants as op
use Rattle.site_words.specs.declared.words.Opening.{Opening}
use Rattle.site_words.specs.declared.words.Refusal.TheVariants.{JournalFull}
use Rattle.site_words.specs.declared.words.Reply.TheVariants as reply
use Rattle.source_tree.specs.declared.edit.Edit.{Edit}
use Rattle.talk_words.specs.Said.{is_editors, taken_as, told_text}

-- where a preview connection stands: the edits of its draft, what its pass has seen, and the bytes read so far
pub record PreviewStand : Type 0 where
  pub edits : List Edit
  pub seen : List Entry
  pub steps : ℕ

-- these three
abbrev pub preview_stand : List Edit → List Entry → ℕ → PreviewStand
preview_stand edits seen steps = record { edits = edits; seen = seen; steps = steps }

-- one picture was taken: the pass's next entry, with this version and session for its reply
pub record IsPictured (needs : Needs) (x : Opening) (pass : ℕ) (cookie : List ℕ) (old new : List Entry) : Type 0 where
  pub version : ℕ
  pub session : Option ℕ
  pub entry : Acts needs x pass old new (op.Snapshot cookie) (reply.Snapped version session)

-- that picture
abbrev pub pictured : (needs : Needs) → (x : Opening) → (pass : ℕ) → (cookie : List ℕ) → (old new : List Entry)
    → IsPictured needs x pass cookie old new → Picture
pictured needs x pass cookie old new is = picture_of (site_after needs x new) is.version is.session

-- the draft was changed, or the message has a fault; and that was told
pub record IsEdited (request : Request) (close : Bool) (old : PreviewStand) (text : List ℕ) (broken : Bool)
    (new : PreviewStand) : Type 0 where
  pub told : Result EditorAnswer EditorFault
  pub drafts : IsDrafted (message request) old.edits new.edits old.seen new.seen (taken_as told)
  pub read : new.steps ≡ old.steps
  pub text_is : text ≡ told_text told close (shows_body request.method)
  pub broken_is : broken ≡ false

-- the request has another method, and nothing was asked of the site
pub record IsNotTaken (request : Request) (close : Bool) (old : PreviewStand) (text : List ℕ) (broken : Bool)
    (new : PreviewStand) : Type 0 where
  pub same : new ≡ old
  pub text_is : text ≡ plain status.MethodNotAllowed close (codes "MethodNotAllowed") (shows_body request.method)
  pub broken_is : broken ≡ false

-- memory ran out for an editor's message: before it was done, or after that, before it was told
pub record IsUntold (request : Request) (old : PreviewStand) (text : List ℕ) (new : PreviewStand) : Type 0 where
  pub result : Result EditorAnswer (Failure EditorFault)
  pub drafts : IsDrafted (message request) old.edits new.edits old.seen new.seen result
  pub read : new.steps ≡ old.steps
  pub text_is : text ≡ []

-- what the answer to an editor's message comes to: before and after are the sink's count of faults, taken and now its bytes
abbrev pub ServedEdited : Bool → Request → (old new : PreviewStand) → ℕ → ℕ → Option (List ℕ) → Option (List ℕ) → Outcome → Type 0
ServedEdited close request old new before after taken now answer =
    Served (λ close old (e : Exchange) new. IsEdited e.request close old e.text e.broken new)
    (λ close old request text new. IsUntold request old text new) close request old new before after taken now answer

module _ (needs : Needs) (x : Opening) (pass : ℕ) where
  -- a picture was taken, and what is shown with the draft is shown by that
  pub record IsShown (request : Request) (close : Bool) (old : PreviewStand) (text : List ℕ) (broken : Bool)
      (new : PreviewStand) : Type 0 where
    pub picture : IsPictured needs x pass request.cookie old.seen new.seen
    pub edits : new.edits ≡ old.edits
    pub shows :
        Shows needs old.edits (pictured needs x pass request.cookie old.seen new.seen picture) request close old.steps text
        broken new.steps

  -- the picture was refused at a front, since the journal had no room for it
  pub record IsRefused (request : Request) (close : Bool) (old : PreviewStand) (text : List ℕ) (broken : Bool)
      (new : PreviewStand) : Type 0 where
    pub stays : Stays needs x pass old.seen new.seen
    pub edits : new.edits ≡ old.edits
    pub weight : ℕ
    pub promised : ℕ
    pub refused :
        step needs x (site_after needs x new.seen) pass (op.Snapshot request.cookie) ≡ Refused (JournalFull weight promised)
    pub told :
        IsPlain status.ServiceUnavailable (full_line weight promised) request close old.steps text broken new.steps

  -- one request and its response: an editor's message by its target as it was sent, another method, or a request for a page
  abbrev pub Previews : Request → (close : Bool) → (old : PreviewStand) → (text : List ℕ) → (broken : Bool)
      → (new : PreviewStand) → Type 0
  Previews request close old text broken new =
      MatchBool (is_editors request.target) (IsEdited request close old text broken new)
      (MatchBool (takes_method request.method)
      (IsShown request close old text broken new ⊎ IsRefused request close old text broken new)
      (IsNotTaken request close old text broken new))

  -- no picture was taken, and nothing was written
  pub record IsUnasked (old : PreviewStand) (text : List ℕ) (new : PreviewStand) : Type 0 where
    pub stays : Stays needs x pass old.seen new.seen
    pub edits : new.edits ≡ old.edits
    pub read : new.steps ≡ old.steps
    pub text_is : text ≡ []

  -- a picture was taken, and nothing was shown by it
  pub record IsDropped (request : Request) (close : Bool) (old : PreviewStand) (text : List ℕ) (new : PreviewStand)
      : Type 0 where
    pub picture : IsPictured needs x pass request.cookie old.seen new.seen
    pub edits : new.edits ≡ old.edits
    pub hides :
        Hides needs old.edits (pictured needs x pass request.cookie old.seen new.seen picture) request close old.steps text
        new.steps

  -- memory ran out for a request, and this was to be written
  abbrev pub Leaves : Request → (close : Bool) → (old : PreviewStand) → (text : List ℕ) → (new : PreviewStand) → Type 0
  Leaves request close old text new =
      MatchBool (is_editors request.target) (IsUntold request old text new)
      (MatchBool (takes_method request.method) (IsUnasked old text new ⊎ IsDropped request close old text new)
      ((new ≡ old) × (text ≡ [])))

  -- an exchange of a preview connection
  abbrev pub IsPreviewed : (close : Bool) → (old : PreviewStand) → Exchange → (new : PreviewStand) → Type 0
  IsPreviewed close old e new = Previews e.request close old e.text e.broken new

  -- what the answer to one request comes to: before and after are the sink's count of faults, taken and now its bytes
  abbrev pub ServedPreview : Bool → Request → (old new : PreviewStand) → ℕ → ℕ → Option (List ℕ) → Option (List ℕ) → Outcome → Type 0
  ServedPreview close request old new before after taken now answer =
      Served IsPreviewed (λ close old request text new. Leaves request close old text new) close request old new before after
      taken now answer

-- the requests of one preview connection were answered: seen and now are what the pass had and has seen, steps and further
-- the counts of bytes read, left and later what the source had and has left, before and after the sink's count of faults,
-- taken and has what the sink had and has taken
pub record HasPreviewed (needs : Needs) (x : Opening) (pass : ℕ) (seen now : List Entry) (steps further : ℕ)
    (left later : Option (List ℕ)) (before after : ℕ) (taken has : Option (List ℕ)) (ended : Ended) : Type 0 where
  pub draft : List Edit
  pub talk :
      Tells (IsPreviewed needs x pass) (λ close old request text new. Leaves needs x pass request close old text new)
      (preview_stand [] seen steps) (preview_stand draft now further) left later before after taken has ended
