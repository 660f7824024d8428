-- What the run of a page does, by what the page means.
use Rattle.std.specs.Prelude.{◌≡◌, ◌-◌, ℕ, List, ◌++◌, option_map}
use Rattle.http_in.specs.declared.params.Param.{Param}
use Rattle.http_in.specs.declared.request.Request.{Request}
use Rattle.page_machine.specs.Run.{level_limit}
use Rattle.page_machine.specs.declared.running.RunEnd.{RunEnd}
use Rattle.page_machine.specs.declared.running.RunEnd.TheVariants as ends
use Rattle.compiled_pages.specs.Pages.{paged_at}
use Rattle.page_meaning.specs.Context.{Served}
use Rattle.page_meaning.specs.Growth.{state_of, Grows}
use Rattle.page_meaning.specs.Includes.{page_run}
use Rattle.page_meaning.specs.Meaning.{nodes_mean, below}
use Rattle.page_meaning.specs.Page.{Page}
use Rattle.page_meaning.specs.State.{State}
use Rattle.page_meaning.specs.Went.{Did, Well, Raised, Ended, forwards, redirects}
use Rattle.run_world.specs.Part.{given}
use Rattle.run_world.specs.Seats.{raise_of}
use Rattle.run_world.specs.declared.around.Around.{Around}
use Rattle.site_words.specs.Law.{Answer}
use Rattle.source_tree.specs.declared.file.File.{File}

-- what no part of a run changes: the request, the pages of its tree, and the fault that an error page sees
abbrev pub served_at : List File → Request → Around → Served
served_at tree request around = record { request = request; pages = paged_at tree; exception = option_map raise_of around.exception }

-- what a page does with these parameters, and so many levels left below it
abbrev pub page_mean : Served → (left : ℕ) → Page → List Param → State → Did
page_mean served left page params s = page_run (nodes_mean served (below served left)) page params s

-- a page's run ended as the page means, whatever answers are still to come, and the target of a
-- forward is as deep as the levels say that are left; where memory ran out, the run went no further
-- than the page goes
abbrev pub EndsAsMeant : (means : List Answer → Did) → (depth : ℕ) → RunEnd → State → Type 0
EndsAsMeant means depth ends.Normal s = (future : List Answer) → means future ≡ Well tt (given future s)
EndsAsMeant means depth (ends.Forward path params) s = (left : ℕ) × (depth ≡ level_limit - left) × ((future : List Answer) → means future ≡ Ended (forwards path params left) (given future s))
EndsAsMeant means depth (ends.Redirect location) s = (future : List Answer) → means future ≡ Ended (redirects location) (given future s)
EndsAsMeant means depth (ends.Raised fault place) s = (future : List Answer) → means future ≡ Raised fault place (given future s)
EndsAsMeant means depth ends.NoMemory s = (future : List Answer) → Grows s (state_of (means future))

-- the run of a page from a state: the answers that it got, the state in which it ended, and that the page means so
pub record PageMeant (served : Served) (page : Page) (params : List Param) (left : ℕ) (stands : State → Type 0) (s : State) (old new : List Answer) (depth : ℕ) (end : RunEnd) : Type 0 where
  pub got : List Answer
  pub replies : new ≡ old ++ got
  pub after : State
  pub stood : stands after
  pub ends : EndsAsMeant (λ future. page_mean served left page params (given (got ++ future) s)) depth end after
