-- What an include finds at its target, for proofs alone.
use Rattle.std.specs.Prelude.{◌<◌, ℕ, List, Result, ⊤}
use Rattle.std.specs.Arc.{arc_value}
use Rattle.page_machine.specs.Pages.{include_found, included_run, params_for}
use Rattle.page_machine.specs.Turn.{Stepped}
use Rattle.page_machine.specs.declared.found.Included.{Included}
use Rattle.page_machine.specs.declared.found.Included.TheVariants as included
use Rattle.page_machine.specs.declared.found.TargetPage.{TargetPage}
use Rattle.page_machine.specs.declared.targets.Target as machine_target
use Rattle.page_meaning.specs.State.{State}
use Rattle.page_table.specs.Open.{Open}
use Rattle.page_table.specs.Program.{Stored}
use Rattle.page_table.specs.Seat.{Seat, page_run_of}
use Rattle.pg_text.specs.declared.failure.Failure.{Failure}
use Rattle.pg_text.specs.declared.place.Place.{Place}
use Rattle.pg_value.specs.declared.fault.RunFault.{RunFault}
use Rattle.run_moves.specs.declared.flow.Flow.{Flow}
use Rattle.run_world.specs.Known.{Known, ServesSo}
use Rattle.run_world.specs.Origin.{Origin}
use Rattle.run_world.specs.Programs.{program_of}
use Rattle.run_world.specs.declared.served.Served as machine_served
use Rattle.site_words.specs.Law.{Answer}

-- a page was found, one level deeper: where its run leads, the include does
pub record PageFound {W : Type 0} (reached : W → Origin → W → State → Type 0) (replies : W → List Answer) (stores : W → ((path : List ℕ) → Stored) → Type 0) (served : machine_served.Served) (seat : Seat)
    (place : Place) (found : Result machine_target.Target (Failure RunFault)) (to : ℕ) (old new : W) (o o2 : Open) (page : TargetPage) : Type 0 where
  pub known : Known reached stores served new
  pub deeper : page.left < o.left
  pub on : (later : W) (opened : Open) (flow : Flow)
      → Stepped reached replies (ServesSo stores served) seat (λ serving s. included_run place (program_of (arc_value page.program)) (params_for (page_run_of seat) page.params) page.left to s o2) new later opened flow
      → Stepped reached replies (ServesSo stores served) seat (λ serving s. include_found (page_run_of seat) serving place found to s o) old later opened flow

-- a page was found so
abbrev pub OnPage : Included → (TargetPage → Type 0) → Type 0
OnPage (included.Page page) finds = finds page
OnPage (included.Done flow) finds = ⊤

-- or all was done so
abbrev pub OnDone : Included → (Flow → Type 0) → Type 0
OnDone (included.Page page) leads = ⊤
OnDone (included.Done flow) leads = leads flow
