-- When a page is refused.
use Rattle.std.proofs.Common.{◌≡◌, ◌↔◌, ℕ, Bool, true, false, List, [], ◌∷◌, Option, Some, None, refl, sym, ap, ◌∙◌}
use Rattle.std.specs.Prelude.{Result, Ok, Err}
use Rattle.http_in.specs.declared.request.Request.{Request}
use Rattle.http_out.specs.Response.{Response, plain, whole, wire}
use Rattle.http_out.specs.declared.status.Status.TheVariants as status
use Rattle.page_answers.specs.Answers.{IsAnswered}
use Rattle.http_out.specs.Methods.{shows_body}
use Rattle.page_answers.specs.Standing.{Standing, session_found, tree_at}
use Rattle.page_answers.specs.Turns.{answers_of, steps_of}
use Rattle.page_answers.specs.Made.{IsFaultOf}
use Rattle.page_answers.specs.Pages.{found_as, page_at, paged_at}
use Rattle.page_meaning.specs.Context.{Paged, bad}
use Rattle.page_meaning.specs.Faults.{page_fault_line}
use Rattle.page_meaning.specs.Page.{Page}
use Rattle.page_meaning.specs.Respond.{FoundSession, beginning, is_hidden, respond}
use Rattle.page_meaning.specs.Response.{closing, plain_line, responds}
use Rattle.page_meaning.specs.State.{State}
use Rattle.page_meaning.specs.Work.{fetched}
use Rattle.pg_text.specs.declared.place.PageFault.{PageFault}
use Rattle.site_words.specs.Law.{Answer}
use Rattle.site_words.specs.PageSteps as asks
use Rattle.site_words.specs.Running.{is_page}
use Rattle.site_words.specs.Trees.{Needs}
use Rattle.site_words.specs.declared.words.Opening.{Opening}
use Rattle.source_tree.specs.Edits.{file_at}
use Rattle.source_tree.specs.declared.file.File.{File}
use Rattle.talk_words.specs.Refusals.{HasExactRefusals, IsRefusedPage}

-- what stands at a path is a fault exactly where it is that of the page's unit

found_bad : (b : Bool) (page : Option (Result Page PageFault)) (file : Option File) (fault : PageFault) → found_as b page file ≡ bad fault → (b ≡ true) × (page ≡ Some (Err fault))
found_bad true None file fault is = absurd (cc)
found_bad true (Some (Ok page)) file fault is = absurd (cc)
found_bad true (Some (Err other)) file fault is = let same : other ≡ fault = cc in (refl, ap (λ f. Some (Err f)) same)
found_bad false page None fault is = absurd (cc)
found_bad false page (Some file) fault is = absurd (cc)

faulty : (tree : List File) (path : List ℕ) (fault : PageFault) → (paged_at tree path ≡ bad fault) ↔ ((is_page path ≡ true) × IsFaultOf fault tree path)
faulty tree path fault = (
  λ is. found_bad (is_page path) (page_at tree path) (file_at path tree) fault is,
  λ is. ap (λ b. found_as b (page_at tree path) (file_at path tree)) is.0 ∙ ap (λ p. found_as true p (file_at path tree)) is.1,
)

-- what such a request is answered

responded : (pages : List ℕ → Paged) (request : Request) (session : Option FoundSession) (answers : List Answer) (path : List ℕ) (fault : PageFault) → request.path ≡ Some path → is_hidden path ≡ false → pages path ≡ bad fault
    → respond pages request session answers ≡ plain_line status.InternalServerError (page_fault_line fault) (fetched path (beginning session answers))
responded pages request session answers path fault named shown stands = rw (named, shown, stands) refl

response_is : (a b : Response) (s t : State) → responds a s ≡ responds b t → (a ≡ b) × (s ≡ t)
response_is a b s t is = (cc, cc)

plain_is : (close shown : Bool) (fault : PageFault) (session : Option FoundSession) (answers : List Answer) (path : List ℕ) (response : Response) (end : State)
    → plain_line status.InternalServerError (page_fault_line fault) (fetched path (beginning session answers)) ≡ responds response end
    → (wire (closing close response) shown ≡ plain status.InternalServerError close (page_fault_line fault) shown) × (response.broken ≡ false) × (end.asked ≡ asks.fetch path ∷ [])
unfolding whole
plain_is close shown fault session answers path response end is =
    let both = response_is _ response _ end is in
    (sym (ap (λ (r : Response). wire (closing close r) shown) both.0), sym (ap (λ (r : Response). r.broken) both.0), sym (ap (λ (s : State). s.asked) both.1))

refused :
    (needs : Needs) (x : Opening) (pass : ℕ) (request : Request) (close : Bool) (old : Standing) (text : List ℕ) (broken : Bool) (new : Standing) (moment : ℕ) (path : List ℕ) (fault : PageFault)
    → request.path ≡ Some path → is_hidden path ≡ false → (is : IsAnswered needs x pass request close old text broken new moment) → paged_at (tree_at needs x is.begun) path ≡ bad fault
    → IsRefusedPage request close text broken fault path (steps_of is.turns)
refused needs x pass request close old text broken new moment path fault named shown is stands =
    let session = session_found needs x request.cookie is.begun is.begins.session in
    let means = sym (responded (paged_at (tree_at needs x is.begun)) request session (answers_of x.seed is.turns) path fault named shown stands) ∙ is.means in
    let told = plain_is close (shows_body request.method) fault session (answers_of x.seed is.turns) path is.response is.end means in
    record { text_is = is.text_is ∙ told.0; whole = is.broken_is ∙ told.1; fetched = sym is.asked ∙ told.2 }

pub exact_refusals : HasExactRefusals
exact_refusals = record { faulty = faulty; refused = refused }
