-- What a request for a page is answered behind a picture of the site, and what is left of it.
use Rattle.std.specs.Prelude.{◌≡◌, ◌⊎◌, ◌<◌, ℕ, ◌+◌, ◌-◌, ◌^◌, Bool, false, List, [], ◌∷◌, codes, nat_le, Option, Some, None}
use Rattle.std.specs.Bool.{MatchBool}
use Rattle.std.specs.Option.{MatchOption}
use Rattle.conversation.specs.Exchange.{Exchange}
use Rattle.conversation.specs.Served.{Served}
use Rattle.conversation.specs.declared.desk.Outcome.{Outcome}
use Rattle.edges.specs.Clock.{Moments}
use Rattle.editor.specs.Telling.{fault_text}
use Rattle.editor.specs.declared.fault.EditorFault.TheVariants as fault
use Rattle.http_in.specs.declared.request.Request.{Request}
use Rattle.http_out.specs.Response.{plain}
use Rattle.http_out.specs.declared.status.Status.{Status}
use Rattle.http_out.specs.declared.status.Status.TheVariants as status
use Rattle.http_out.specs.Methods.{shows_body}
use Rattle.page_answers.specs.Answers.{IsAnswered}
use Rattle.page_answers.specs.Dropped.{Drops}
use Rattle.page_answers.specs.Standing.{standing_of}
use Rattle.preview_words.specs.Own.{Picture, drafted_tree, own_opening, own_request}
use Rattle.site_words.specs.Trees.{Needs}
use Rattle.site_words.specs.declared.words.Entry.{Entry}
use Rattle.site_words.specs.declared.words.Opening.{Opening}
use Rattle.source_tree.specs.Limits.{tree_fault}
use Rattle.source_tree.specs.declared.edit.Edit.{Edit}
use Rattle.source_tree.specs.declared.file.File.{File}

-- the moments of a clock that always answers 0
abbrev pub no_time : Moments
no_time = record { ahead = Some (0 ∷ []); noted = None }

-- this plain answer was given, and nothing was read
pub record IsPlain (status : Status) (line : List ℕ) (request : Request) (close : Bool) (steps : ℕ) (text : List ℕ)
    (broken : Bool) (later : ℕ) : Type 0 where
  pub read : later ≡ steps
  pub text_is : text ≡ plain status close line (shows_body request.method)
  pub broken_is : broken ≡ false

-- nothing was read, and nothing was written
abbrev pub IsSilent : (steps : ℕ) → (text : List ℕ) → (later : ℕ) → Type 0
IsSilent steps text later = (later ≡ steps) × (text ≡ [])

module _ (needs : Needs) (own : Opening) (session : Option ℕ) where
  -- the request was answered on a site of its own from this opening, where it names the session, and begins at the moment 0
  pub record IsRun (request : Request) (close : Bool) (steps : ℕ) (text : List ℕ) (broken : Bool) (later : ℕ) : Type 0 where
    pub history : List Entry
    pub answers :
        IsAnswered needs own 0 (own_request session request) close (standing_of [] no_time steps) text broken
        (standing_of history no_time later) 0

  -- memory ran out for it there
  pub record IsRunDropped (request : Request) (close : Bool) (steps : ℕ) (text : List ℕ) (later : ℕ) : Type 0 where
    pub history : List Entry
    pub drops :
        Drops needs own 0 (own_request session request) close (standing_of [] no_time steps) text
        (standing_of history no_time later)

  -- how running the request there ends, as each request that is served ends: steps and later count the bytes that were read to
  -- make pages before it and behind it, before and after the sink's faults, and taken and now are the sink's bytes
  abbrev pub ServedRun : Bool → Request → (steps later : ℕ) → ℕ → ℕ → Option (List ℕ) → Option (List ℕ) → Outcome → Type 0
  ServedRun close request steps later before after taken now answer =
      Served (λ close steps (e : Exchange) later. IsRun e.request close steps e.text e.broken later)
      (λ close steps request text later. IsSilent steps text later ⊎ IsRunDropped request close steps text later)
      close request steps later before after taken now answer

module _ (needs : Needs) (tree : List File) (picture : Picture) where
  -- by a tree that keeps its limits the request is run; where no version is left behind the picture's, that is told
  abbrev pub ShowsTree : Request → (close : Bool) → (steps : ℕ) → (text : List ℕ) → (broken : Bool) → (later : ℕ) → Type 0
  ShowsTree request close steps text broken later =
      MatchBool (nat_le (2 ^ 63 - 1) picture.version)
      (IsPlain status.ContentTooLarge (codes "TreeTooLarge Version") request close steps text broken later)
      (IsRun needs (own_opening tree picture) picture.session request close steps text broken later)

  -- memory ran out: nothing was told and nothing run, or the run was dropped
  abbrev pub HidesTree : Request → (close : Bool) → (steps : ℕ) → (text : List ℕ) → (later : ℕ) → Type 0
  HidesTree request close steps text later =
      IsSilent steps text later
      ⊎ ((picture.version + 1 < 2 ^ 63)
      × IsRunDropped needs (own_opening tree picture) picture.session request close steps text later)

  -- how showing the request by this tree ends, by the same counts and bytes
  abbrev pub ServedTree : Bool → Request → (steps later : ℕ) → ℕ → ℕ → Option (List ℕ) → Option (List ℕ) → Outcome → Type 0
  ServedTree close request steps later before after taken now answer =
      Served (λ close steps (e : Exchange) later. ShowsTree e.request close steps e.text e.broken later)
      (λ close steps request text later. HidesTree request close steps text later)
      close request steps later before after taken now answer

module _ (needs : Needs) (edits : List Edit) (picture : Picture) where
  -- where the tree that the draft makes passes a limit that is told; else it is shown by that tree
  abbrev pub Shows : Request → (close : Bool) → (steps : ℕ) → (text : List ℕ) → (broken : Bool) → (later : ℕ) → Type 0
  Shows request close steps text broken later =
      MatchOption (tree_fault (drafted_tree edits picture))
      (ShowsTree needs (drafted_tree edits picture) picture request close steps text broken later)
      (λ reason. IsPlain status.ContentTooLarge (fault_text (fault.TreeTooLarge reason)) request close steps text broken later)

  -- memory ran out: nothing was told and nothing run, or the tree keeps its limits and the run was
  -- dropped
  abbrev pub Hides : Request → (close : Bool) → (steps : ℕ) → (text : List ℕ) → (later : ℕ) → Type 0
  Hides request close steps text later =
      IsSilent steps text later
      ⊎ ((tree_fault (drafted_tree edits picture) ≡ None)
      × HidesTree needs (drafted_tree edits picture) picture request close steps text later)

  -- how showing the request by this draft ends, by the same counts and bytes
  abbrev pub ServedShown : Bool → Request → (steps later : ℕ) → ℕ → ℕ → Option (List ℕ) → Option (List ℕ) → Outcome → Type 0
  ServedShown close request steps later before after taken now answer =
      Served (λ close steps (e : Exchange) later. Shows e.request close steps e.text e.broken later)
      (λ close steps request text later. Hides request close steps text later)
      close request steps later before after taken now answer
