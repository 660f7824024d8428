-- What is told of a tree's pages stands at their paths.
use Rattle.std.proofs.Common.{◌≡◌, ℕ, true, List, Some, None, refl, sym, subst}
use Rattle.std.specs.Prelude.{Result, Ok, Err, option_map}
use Rattle.http_in.specs.declared.request.Request.{Request}
use Rattle.code_lowering.specs.Laws.{ProgramsFit}
use Rattle.code_lowering.specs.Programs.{program_of, stored_of}
use Rattle.page_machine.specs.Run.{IsServed, Serves}
use Rattle.compiled_pages.proofs.PageLemmas.{page_there, told_stands}
use Rattle.compiled_pages.specs.Made.{IsFaultOf, IsProgramOf, TellsPages}
use Rattle.compiled_pages.specs.Pages.{found_as, paged_at}
use Rattle.compiled_pages.specs.Stored.{stored_at}
use Rattle.page_meaning.specs.Context.{Paged, absent, plain, bad, good}
use Rattle.page_meaning.specs.Page.{Page}
use Rattle.page_table.specs.Checked.{ProgramFits}
use Rattle.page_table.specs.Program as table
use Rattle.page_table.specs.Program.{Serving}
use Rattle.pg_text.specs.declared.place.PageFault.{PageFault}
use Rattle.run_stage.specs.Stage.{IsPageStored, StoresSo}
use Rattle.run_world.specs.Seats.{raise_of}
use Rattle.run_world.specs.declared.around.Around.{Around}
use Rattle.run_world.specs.declared.program.Program.{Program}
use Rattle.site_words.specs.Running.{IsPageFile}
use Rattle.source_tree.specs.Edits.{file_at}
use Rattle.source_tree.specs.declared.file.File.{File}

-- a page or its fault is one as its program too
read_stored : (read : Result Page PageFault) → IsPageStored (stored_of (found_as true (Some read) None))
read_stored (Ok page) = tt
read_stored (Err fault) = tt

page_stored : (tree : List File) (path : List ℕ) → IsPageFile path (file_at path tree) → IsPageStored (stored_at tree path)
page_stored tree path file = let there = page_there tree path file in subst (λ paged. IsPageStored (stored_of paged)) (sym there.1) (read_stored there.0)

fits : ProgramsFit → (paged : Paged) (program : table.Program) → stored_of paged ≡ table.good program → ProgramFits program
fits all absent program is = absurd (cc)
fits all (plain text) program is = absurd (cc)
fits all (bad fault) program is = absurd (cc)
fits all (good page) program is = let same : program_of page ≡ program = cc in subst ProgramFits same (all page)

-- what is told of a tree's pages stands at their paths
pub stores : {made : Program → List File → List ℕ → Type 0} {faulty : PageFault → List File → List ℕ → Type 0} → TellsPages made faulty → (tree : List File) → StoresSo made faulty tree (stored_at tree)
stores tells tree = record { told = λ path found is. told_stands tells tree path found is; pages = λ path file. page_stored tree path file }

-- how a request is served over a tree
abbrev pub serving_at : List File → Request → Around → Serving
serving_at tree request around = record { request = request; stored = stored_at tree; exception = option_map raise_of around.exception }

-- which is how a request is served
pub serves : {made : Program → List File → List ℕ → Type 0} {faulty : PageFault → List File → List ℕ → Type 0} → TellsPages made faulty
    → (tree : List File) (request : Request) (around : Around) → Serves made faulty tree request around (serving_at tree request around)
serves tells tree request around = record { request = refl; exception = refl; stored = stores tells tree }

-- a port that tells the pages of its tree serves them
pub pages_served : ProgramsFit → {made : Program → List File → List ℕ → Type 0} {faulty : PageFault → List File → List ℕ → Type 0} → TellsPages made faulty
    → (tree : List File) (request : Request) (around : Around) → IsServed made faulty tree request around
pages_served all tells tree request around = record {
  serving = serving_at tree request around;
  serves = serves tells tree request around;
  fits = λ path program is. fits all (paged_at tree path) program is;
}

-- what is so is told so
pub tells_itself : TellsPages IsProgramOf IsFaultOf
tells_itself = record { programs = λ program tree path is. is; faults = λ fault tree path is. is }
