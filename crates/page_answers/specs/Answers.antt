-- What a request is answered, and the entries that it uses.
use Rattle.std.specs.Prelude.{◌≡◌, ◌⊎◌, ℕ, ◌+◌, Bool, true, false, List, [], ◌∷◌, ◌++◌, codes}
use Rattle.std.specs.Bool.{MatchBool}
use Rattle.std.specs.List.{list_all}
use Rattle.std.specs.Option.{unwrap_or}
use Rattle.edges.specs.declared.acted.Acted.TheVariants.{Refused}
use Rattle.http_in.specs.declared.request.Request.{Request}
use Rattle.http_out.specs.Full.{full_line}
use Rattle.http_out.specs.Methods.{shows_body, takes_method}
use Rattle.http_out.specs.Response.{Response, plain, wire}
use Rattle.http_out.specs.declared.status.Status.TheVariants as status
use Rattle.page_meaning.specs.Respond.{respond}
use Rattle.page_meaning.specs.Response.{closing, responds}
use Rattle.page_meaning.specs.State.{State}
use Rattle.pg_value.specs.Datum.{Datum}
use Rattle.site_words.specs.Calls.{Stays}
use Rattle.site_words.specs.State.{after as site_after}
use Rattle.site_words.specs.Step.{step}
use Rattle.site_words.specs.Trees.{Needs}
use Rattle.site_words.specs.declared.words.Entry.{Entry}
use Rattle.site_words.specs.declared.words.Op.TheVariants as op
use Rattle.site_words.specs.declared.words.Opening.{Opening}
use Rattle.site_words.specs.declared.words.Refusal.TheVariants.{JournalFull}
use Rattle.site_words.specs.declared.words.Reply.TheVariants as reply
use Rattle.pass_course.specs.Course.{HasDone}
use Rattle.compiled_pages.specs.Pages.{paged_at}
use Rattle.page_answers.specs.Standing.{Standing, AtMoment, Begins, session_found, tree_at}
use Rattle.page_answers.specs.Turns.{Turn, all_bytes, all_calls, answers_of, is_whole, steps_of}

-- the session's attributes where a request ends, none where it has no session
abbrev pub attrs_left : State → List (List ℕ × Datum)
attrs_left s = unwrap_or s.scopes.session []

-- the request was begun, did each step that its pages ask under the tree that was the latest then, in order, and its end, and the answer is what its pages mean
pub record IsAnswered (needs : Needs) (x : Opening) (pass : ℕ) (request : Request) (close : Bool) (old : Standing) (text : List ℕ) (broken : Bool) (new : Standing) (moment : ℕ) : Type 0 where
  pub begun : List Entry
  pub begins : Begins needs x pass request.cookie moment old.seen begun
  pub turns : List Turn
  pub whole : list_all is_whole turns ≡ true
  pub response : Response
  pub end : State
  pub means : respond (paged_at (tree_at needs x begun)) request (session_found needs x request.cookie begun begins.session) (answers_of x.seed turns) ≡ responds response end
  pub asked : end.asked ≡ steps_of turns
  pub used : end.answers ≡ []
  pub did : HasDone needs x pass begun new.seen (all_calls begins.request turns ++ (op.End begins.request (attrs_left end), reply.Ended) ∷ [])
  pub read : new.steps ≡ old.steps + all_bytes (tree_at needs x begun) turns
  pub text_is : text ≡ wire (closing close response) (shows_body request.method)
  pub broken_is : broken ≡ response.broken

-- the request was refused at a front, since the journal had no room for what it may need
pub record IsRefused (needs : Needs) (x : Opening) (pass : ℕ) (request : Request) (close : Bool) (old : Standing) (text : List ℕ) (broken : Bool) (new : Standing) (moment : ℕ) : Type 0 where
  pub stays : Stays needs x pass old.seen new.seen
  pub weight : ℕ
  pub promised : ℕ
  pub refused : step needs x (site_after needs x new.seen) pass (op.Begin request.cookie moment) ≡ Refused (JournalFull weight promised)
  pub read : new.steps ≡ old.steps
  pub text_is : text ≡ plain status.ServiceUnavailable close (full_line weight promised) (shows_body request.method)
  pub broken_is : broken ≡ false

-- the request has another method, and nothing was asked of the site
pub record IsNotTaken (request : Request) (close : Bool) (old : Standing) (text : List ℕ) (broken : Bool) (new : Standing) : Type 0 where
  pub same : new ≡ old
  pub text_is : text ≡ plain status.MethodNotAllowed close (codes "MethodNotAllowed") (shows_body request.method)
  pub broken_is : broken ≡ false

-- what a request that isn't an editor's is answered
abbrev pub Answers : Needs → Opening → (pass : ℕ) → Request → (close : Bool) → (old : Standing) → (text : List ℕ) → (broken : Bool) → (new : Standing) → Type 0
Answers needs x pass request close old text broken new =
    MatchBool (takes_method request.method)
    (AtMoment old new (λ moment. IsAnswered needs x pass request close old text broken new moment ⊎ IsRefused needs x pass request close old text broken new moment))
    (IsNotTaken request close old text broken new)
