-- The run of a page's program is what the page means.
use Rattle.std.proofs.Common.{◌≡◌, ℕ, List, ◌++◌, refl, sym, subst, ◌∙◌}
use Rattle.http_in.specs.declared.params.Param.{Param}
use Rattle.code_lowering.specs.Laws.{ProgramsMean}
use Rattle.code_lowering.specs.Programs.{program_of, stored_of}
use Rattle.page_machine.specs.Run.{PageRan, RunEndsSo}
use Rattle.page_machine.specs.declared.running.RunEnd.{RunEnd}
use Rattle.page_machine.specs.declared.running.RunEnd.TheVariants as ends
use Rattle.page_meaning.specs.Context.{Served}
use Rattle.page_meaning.specs.Page.{Page}
use Rattle.page_meaning.specs.State.{State}
use Rattle.page_meaning.specs.Went.{Did, Well, Raised, Ended, Awaits}
use Rattle.run_pages.specs.Meant.{EndsAsMeant, PageMeant, page_mean}
use Rattle.page_table.proofs.OneEnd.{one_end}
use Rattle.page_table.specs.Landing.{Running}
use Rattle.page_table.specs.Open.{fresh_open}
use Rattle.page_table.specs.Pages.{page_begun}
use Rattle.page_table.specs.Program.{Program, Serving}
use Rattle.page_table.specs.Runs.{EndsBehind, PageRuns}
use Rattle.page_table.specs.Seat.{in_page}
use Rattle.run_world.specs.Part.{given}
use Rattle.site_words.specs.Law.{Answer}

-- the run of a page has one end
page_once : (serving : Serving) (program : Program) (params : List Param) (left : ℕ) (s : State) (d other : Did) → PageRuns serving program params left s d → PageRuns serving program params left s other → d ≡ other
page_once serving program params left s d other first second = once (page_begun program s) first second
  where
    once : (begun : Did) → EndsBehind serving program params left begun d → EndsBehind serving program params left begun other → d ≡ other
    once (Well u s1) first second = one_end serving (in_page program params) (Running 0 s1 (fresh_open left)) d other first second
    once (Raised fault place s1) first second = first ∙ sym second
    once (Ended leaving s1) first second = first ∙ sym second
    once (Awaits step s1) first second = first ∙ sym second

-- where each run goes as is meant, what ended so ended as is meant
ends_as_meant : (runs : List Answer → Did → Type 0) (means : List Answer → Did) → ((future : List Answer) → runs future (means future))
    → ((future : List Answer) (d : Did) → runs future d → means future ≡ d) → (depth : ℕ) (end : RunEnd) (s : State) → RunEndsSo runs depth end s → EndsAsMeant means depth end s
ends_as_meant runs means meant once depth ends.Normal s so = λ future. once future _ (so future)
ends_as_meant runs means meant once depth (ends.Forward path params) s so = (so.0, so.1, λ future. once future _ (so.2 future))
ends_as_meant runs means meant once depth (ends.Redirect location) s so = λ future. once future _ (so future)
ends_as_meant runs means meant once depth (ends.Raised fault place) s so = λ future. once future _ (so future)
ends_as_meant runs means meant once depth ends.NoMemory s so = λ future. so future (means future) (meant future)

-- each page of what is served as its program
abbrev pub serving_by : Served → Serving
serving_by served = record { request = served.request; stored = λ path. stored_of (served.pages path); exception = served.exception }

-- what the program of a page did is what the page means
pub page_meant : ProgramsMean → (served : Served) (page : Page) (program : Program) (params : List Param) (left : ℕ) (stands : State → Type 0) (s : State) (old new : List Answer) (depth : ℕ) (end : RunEnd)
    → program ≡ program_of page → PageRan (serving_by served) program params left stands s old new depth end → PageMeant served page params left stands s old new depth end
page_meant mean served page program params left stands s old new depth end is ran = record {
  got = ran.got;
  replies = ran.replies;
  after = ran.after;
  stood = ran.stood;
  ends = ends_as_meant (λ future d. PageRuns (serving_by served) program params left (given (ran.got ++ future) s) d) (λ future. page_mean served left page params (given (ran.got ++ future) s))
      (λ future. runs (given (ran.got ++ future) s))
      (λ future d run. page_once (serving_by served) program params left (given (ran.got ++ future) s) (page_mean served left page params (given (ran.got ++ future) s)) d (runs (given (ran.got ++ future) s)) run)
      depth end ran.after ran.ends;
}
  where
    runs : (t : State) → PageRuns (serving_by served) program params left t (page_mean served left page params t)
    runs t = subst (λ p. PageRuns (serving_by served) p params left t (page_mean served left page params t)) (sym is) (mean served (serving_by served).stored (λ path. refl) page params left t)
