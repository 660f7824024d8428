-- What a running page asks, and what it is answered.
use Rattle.std.specs.Prelude.{◌≡◌, ◌⊎◌, ℕ, ◌+◌, ◌*◌, ◌≤◌, ◌||◌, Bool, true, false, List, [], ◌∷◌, ◌++◌, length, codes, nat_eq, Option, Some, None, Result, Ok, Err, if◌then◌else◌, ⊤}
use Rattle.std.specs.Arc.{arc_value}
use Rattle.std.specs.List.{ends_with}
use Rattle.pg_text.specs.declared.place.PageFault.{PageFault}
use Rattle.pg_value.specs.Limits.{is_over}
use Rattle.pg_value.specs.Value.{datum_of}
use Rattle.source_tree.specs.declared.file.File.{File}
use Rattle.source_tree.specs.Edits.{file_at}
use Rattle.site_words.specs.declared.app_port.Paged.{Paged}
use Rattle.site_words.specs.declared.app_port.Paged.TheVariants.{Absent, Plain, Bad, Page}
use Rattle.site_words.specs.declared.port.Fresh.{Fresh}
use Rattle.site_words.specs.declared.words.AppStep.{AppStep}
use Rattle.site_words.specs.declared.words.AppStep.TheVariants as step
use Rattle.site_words.specs.declared.words.AppReply.{AppReply}
use Rattle.site_words.specs.declared.words.AppReply.TheVariants as answer
use Rattle.site_words.specs.Law.{Answer, told, id}
use Rattle.site_words.specs.PageSteps as asks
use Rattle.site_words.specs.Weights.{answer_weight, step_weight}

-- what a request's asking depends on: its steps so far and their answers, whether it has a session, and what is left of its promise
pub record Asking : Type 0 where
  pub asked : List asks.Step
  pub answers : List Answer
  pub has_session : Bool
  pub left : ℕ

-- the path is that of a page
abbrev pub is_page : List ℕ → Bool
is_page path = ends_with nat_eq path (codes ".jsp") || ends_with nat_eq path (codes ".jspx")

-- what a look takes of the promise: for a page one entry that looks for it and one that offers it
abbrev pub page_claim : List ℕ → ℕ
page_claim path = if is_page path then asks.page_charge path else 0

-- a reply is of the kind that answers this step on the application's attributes
abbrev pub fits_step_reply : AppStep → AppReply → Bool
fits_step_reply (step.Get name) (answer.Value value) = true
fits_step_reply (step.Set name value) answer.Done = true
fits_step_reply (step.Remove name) answer.Done = true
fits_step_reply (step.Ensure name value) (answer.Value found) = true
fits_step_reply (step.Ensure name value) answer.Created = true
fits_step_reply step.All (answer.Value value) = true
fits_step_reply step.All (answer.Large weight) = true
fits_step_reply step reply = false

-- a value that is told keeps the limits of a value
abbrev pub keeps_limits : AppReply → Type 0
keeps_limits (answer.Value value) = is_over (datum_of value) ≡ false
keeps_limits other = ⊤

-- a step was answered; where memory ran out all is as it was
abbrev pub IsTold : Asking → Asking → AppStep → {E : Type 0} → Result AppReply E → Type 0
IsTold old new step (Ok reply) =
    (new.asked ≡ old.asked ++ asks.app step ∷ []) × (new.answers ≡ old.answers ++ told reply ∷ []) × (new.has_session ≡ old.has_session) × (new.left + (64 + step_weight step + answer_weight reply) ≡ old.left)
    × (fits_step_reply step reply ≡ true) × keeps_limits reply
IsTold old new step (Err e) = new ≡ old

-- the request has a session; where memory ran out all is as it was
abbrev pub IsGivenSession : Asking → Asking → {E : Type 0} → Result Fresh E → Type 0
IsGivenSession old new (Ok fresh) =
    (new.asked ≡ old.asked ++ asks.fresh ∷ []) × (new.answers ≡ old.answers ++ id fresh.id ∷ []) × (new.has_session ≡ true) × (new.left + 64 ≡ old.left)
IsGivenSession old new (Err e) = new ≡ old

-- what a look takes of the promise at most: nothing where no file stands
abbrev pub look_claim : List ℕ → Option File → ℕ
look_claim path None = 0
look_claim path (Some file) = page_claim path

-- the step that a look is: the fetch of a page, where one stands there
abbrev pub look_steps : List ℕ → Option File → List asks.Step
look_steps path None = []
look_steps path (Some file) = if is_page path then asks.fetch path ∷ [] else []

-- what stands at a path was looked for; the fetch of a page has no answer among those of steps
pub record HasLooked (old new : Asking) (path : List ℕ) (found : Option File) : Type 0 where
  pub asked : new.asked ≡ old.asked ++ look_steps path found
  pub answers : new.answers ≡ old.answers
  pub has_session : new.has_session ≡ old.has_session
  pub left : old.left ≤ new.left + look_claim path found

-- what stands at a path was looked for; where memory ran out it may not have been
abbrev pub Looks : Asking → Asking → List ℕ → Option File → {A E : Type 0} → Result A E → Type 0
Looks old new path found (Ok a) = HasLooked old new path found
Looks old new path found (Err e) = HasLooked old new path found ⊎ (new ≡ old)

-- a file that isn't a page is answered by its text
abbrev pub IsPlain : List ℕ → Option File → List ℕ → Type 0
IsPlain path None text = ⊥
IsPlain path (Some file) text = (is_page path ≡ false) × (file.text ≡ text)

-- a page's file stands there
abbrev pub IsPageFile : List ℕ → Option File → Type 0
IsPageFile path None = ⊥
IsPageFile path (Some file) = is_page path ≡ true

-- what a path of the request's tree is answered: whether a file stands there, its text where it is no page, and else the page or its fault
module _ {P : Type 0} (made : P → List File → List ℕ → Type 0) (faulty : PageFault → List File → List ℕ → Type 0) where
  abbrev pub IsPaged : List File → List ℕ → Paged P → Type 0
  IsPaged tree path Absent = file_at path tree ≡ None
  IsPaged tree path (Plain text) = IsPlain path (file_at path tree) text
  IsPaged tree path (Bad fault) = IsPageFile path (file_at path tree) × faulty fault tree path
  IsPaged tree path (Page page) = IsPageFile path (file_at path tree) × made (arc_value page) tree path
