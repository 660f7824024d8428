-- When a page is refused.
use Rattle.std.specs.Prelude.{◌≡◌, ◌↔◌, ℕ, Bool, true, false, List, [], ◌∷◌, Some}
use Rattle.http_in.specs.declared.request.Request.{Request}
use Rattle.http_out.specs.Response.{plain}
use Rattle.http_out.specs.declared.status.Status.TheVariants as status
use Rattle.page_answers.specs.Answers.{IsAnswered}
use Rattle.http_out.specs.Methods.{shows_body}
use Rattle.page_answers.specs.Standing.{Standing, tree_at}
use Rattle.page_answers.specs.Turns.{steps_of}
use Rattle.page_answers.specs.Made.{IsFaultOf}
use Rattle.page_answers.specs.Pages.{paged_at}
use Rattle.page_meaning.specs.Context.{bad}
use Rattle.page_meaning.specs.Faults.{page_fault_line}
use Rattle.page_meaning.specs.Respond.{is_hidden}
use Rattle.pg_text.specs.declared.place.PageFault.{PageFault}
use Rattle.site_words.specs.PageSteps as asks
use Rattle.site_words.specs.Running.{is_page}
use Rattle.site_words.specs.Trees.{Needs}
use Rattle.site_words.specs.declared.words.Opening.{Opening}
use Rattle.source_tree.specs.declared.file.File.{File}

-- where the page that a request names has a fault, nothing of it runs, and the answer is its line
pub record IsRefusedPage (request : Request) (close : Bool) (text : List ℕ) (broken : Bool) (fault : PageFault) (path : List ℕ) (steps : List asks.Step) : Type 0 where
  pub text_is : text ≡ plain status.InternalServerError close (page_fault_line fault) (shows_body request.method)
  pub whole : broken ≡ false
  pub fetched : steps ≡ asks.fetch path ∷ []

-- a page is refused exactly where its unit in the tree of the request's version has a fault, with that fault
pub record HasExactRefusals : Type 0 where
  pub faulty : (tree : List File) (path : List ℕ) (fault : PageFault) → (paged_at tree path ≡ bad fault) ↔ ((is_page path ≡ true) × IsFaultOf fault tree path)
  pub refused :
      (needs : Needs) (x : Opening) (pass : ℕ) (request : Request) (close : Bool) (old : Standing) (text : List ℕ) (broken : Bool) (new : Standing) (moment : ℕ) (path : List ℕ) (fault : PageFault)
      → request.path ≡ Some path → is_hidden path ≡ false → (is : IsAnswered needs x pass request close old text broken new moment) → paged_at (tree_at needs x is.begun) path ≡ bad fault
      → IsRefusedPage request close text broken fault path (steps_of is.turns)
