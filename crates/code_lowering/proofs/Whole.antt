-- A whole run of a page's program ends as the page means.
use Rattle.std.proofs.Common.{◌≡◌, ℕ, zero, suc, Bool, true, false, List, [], ◌∷◌, ◌+◌, map, length, Some, refl, sym, ap, subst}
use Rattle.std.specs.Prelude.{slice_get}
use Rattle.http_in.specs.declared.params.Param.{Param}
use Rattle.page_code.specs.Shapes.{cell, empty_shape}
use Rattle.page_code.specs.declared.instr.Instr.TheVariants as instr
use Rattle.page_code.specs.declared.call.Leave.TheVariants as leave
use Rattle.page_code.specs.Fits.{CodeFits}
use Rattle.page_meaning.specs.Context as meaning
use Rattle.page_meaning.specs.Context.{Served, run_of}
use Rattle.page_meaning.specs.Core.{is_caught}
use Rattle.page_meaning.specs.Includes.{page_run}
use Rattle.page_meaning.specs.Meaning.{nodes_mean, below}
use Rattle.page_meaning.specs.Page.{Page, TagFile, Nodes}
use Rattle.page_meaning.specs.State.{State}
use Rattle.page_meaning.specs.Went.{Did, Well, Raised, Ended, Awaits, then_do}
use Rattle.page_table.specs.Act.{act_at}
use Rattle.page_table.specs.Checked.{TagsFit, ProgramFits}
use Rattle.page_table.specs.Landing.{Over, uncaught, caught_by, one_of, thrown, land}
use Rattle.page_table.specs.Open.{fresh_open}
use Rattle.page_table.specs.Pages.{page_begun}
use Rattle.page_table.specs.Program.{Stored, Serving}
use Rattle.page_table.specs.Runs.{Runs, over, on, EndsBehind, PageRuns}
use Rattle.page_table.specs.Seat.{Seat, in_page, code_of as seat_code}
use Rattle.pg_text.specs.declared.place.Place.{Place}
use Rattle.pg_value.specs.declared.fault.RunFault.{RunFault}
use Rattle.code_forms.specs.Codes.{form_code}
use Rattle.code_lowering.specs.Laws.{ProgramsMean}
use Rattle.code_lowering.specs.Lowering.{nodes_form}
use Rattle.code_lowering.specs.Programs.{code_of, tag_code_of, program_of, stored_of, file_place}
use Rattle.code_lowering.proofs.Callings.{Deep, RunsDeep}
use Rattle.code_lowering.proofs.Nodes.{nodes_go}
use Rattle.code_lowering.proofs.Passes.{form_passes, handed_passes, before_as, after_as, up_none}
use Rattle.code_lowering.proofs.Seats.{same_page, whole_returns}
use Rattle.code_lowering.proofs.Stands.{has_front, has_back, has_all}
use Rattle.code_lowering.proofs.Trees.{serving_by}

thrown_fresh : (f : RunFault) (place : Place) (left : ℕ) (s : State) (b : Bool) → is_caught f ≡ b → thrown f place s (fresh_open left) ≡ Over (Raised f place s)
thrown_fresh f place left s true e = ap (λ t. one_of t (caught_by f place s (fresh_open left) []) (uncaught f place s (fresh_open left))) e
thrown_fresh f place left s false e = ap (λ t. one_of t (caught_by f place s (fresh_open left) []) (uncaught f place s (fresh_open left))) e

module _ (served : Served) (stored : List ℕ → Stored) (agrees : (path : List ℕ) → stored path ≡ stored_of (served.pages path)) where
  abbrev serving : Serving
  serving = serving_by served stored

  finishes : (left to : ℕ) (place : Place) (seat : Seat) (w : Did) → slice_get (seat_code seat) to ≡ Some (cell empty_shape place (instr.Leave leave.End))
      → Runs serving seat (land to (λ u. []) (fresh_open left) w) w
  finishes left to place seat (Well u s) h = on seat to s (fresh_open left) (Over (Well u s)) _ (ap (act_at serving seat to s (fresh_open left)) h) (over seat _)
  finishes left to place seat (Raised f p s) h = subst (λ c. Runs serving seat c (Raised f p s)) (sym (thrown_fresh f p left s (is_caught f) refl)) (over seat _)
  finishes left to place seat (Ended l s) h = over seat _
  finishes left to place seat (Awaits x s) h = over seat _

  whole_runs : (left : ℕ) → Deep served stored agrees left → RunsDeep served stored agrees left
  whole_runs left runs nodes here seat at s same ret =
      let part = form_code empty_shape (nodes_form (run_of here).page nodes) in
      (((nodes_go served stored agrees here seat same nodes).by empty_shape (fresh_open left) tt runs).by at s (has_front (seat_code seat) at part _ ret.has)).by
      (nodes_mean served (below served left) nodes here s)
      (finishes left (at + length part) ret.place seat (nodes_mean served (below served left) nodes here s) (has_back (seat_code seat) at part _ ret.has).0)

  all_run : (left : ℕ) → Deep served stored agrees left
  all_run zero = tt
  all_run (suc left) = whole_runs left (all_run left)

  -- the program of a page runs as the page means
  pub page_runs : (page : Page) (params : List Param) (left : ℕ) (s : State) → PageRuns serving (program_of page) params left s (page_run (nodes_mean served (below served left)) page params s)
  page_runs page params left s = behind (page_begun (program_of page) s)
    where
      behind : (w : Did)
          → EndsBehind serving (program_of page) params left w (then_do w (λ u s1. nodes_mean served (below served left) page.nodes (meaning.in_page (record { page = page; params = params })) s1))
      behind (Well u s1) =
          whole_runs left (all_run left) page.nodes (meaning.in_page (record { page = page; params = params })) (in_page (program_of page) params) 0 s1
          (same_page (record { page = page; params = params })) (whole_returns page (file_place page.path) page.nodes)
      behind (Raised f p s1) = refl
      behind (Ended l s1) = refl
      behind (Awaits x s1) = refl

-- the shapes of a code fit
code_fits : (page : Page) (end : Place) (nodes : Nodes) → CodeFits (code_of page end nodes)
code_fits page end nodes =
    let code = code_of page end nodes in
    let f = nodes_form page nodes in
    handed_passes code end (form_code empty_shape f) (before_as code (up_none empty_shape) (after_as code (up_none empty_shape) (form_passes code f empty_shape tt))) 0 (has_all code [])

-- the shapes of a page's program fit
pub program_fits : (page : Page) → ProgramFits (program_of page)
program_fits page = (code_fits page (file_place page.path) page.nodes, tags_fit page.tags)
  where
    tags_fit : (list : List TagFile) → TagsFit (map (tag_code_of page) list)
    tags_fit [] = tt
    tags_fit (tag ∷ rest) = (code_fits page (file_place tag.path) tag.nodes, tags_fit rest)

-- every page's program means it
pub programs_mean : ProgramsMean
programs_mean served stored agrees page params left s = page_runs served stored agrees page params left s
