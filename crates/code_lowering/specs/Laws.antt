-- What is true of every page's program.
use Rattle.std.specs.Prelude.{◌≡◌, ℕ, List}
use Rattle.http_in.specs.declared.params.Param.{Param}
use Rattle.page_meaning.specs.Context.{Served}
use Rattle.page_meaning.specs.Includes.{page_run}
use Rattle.page_meaning.specs.Meaning.{nodes_mean, below}
use Rattle.page_meaning.specs.Page.{Page}
use Rattle.page_meaning.specs.State.{State}
use Rattle.page_table.specs.Checked.{ProgramFits}
use Rattle.page_table.specs.Program.{Stored}
use Rattle.page_table.specs.Runs.{PageRuns}
use Rattle.code_lowering.specs.Programs.{program_of, stored_of}

-- where each page of a tree stands as its program, a page's program runs as the page means: from every state, with every list of answers
abbrev pub ProgramsMean : Type 0
ProgramsMean =
    (served : Served) (stored : List ℕ → Stored) → ((path : List ℕ) → stored path ≡ stored_of (served.pages path)) → (page : Page) (params : List Param) (left : ℕ) (s : State)
    → PageRuns (record { request = served.request; stored = stored; exception = served.exception }) (program_of page) params left s (page_run (nodes_mean served (below served left)) page params s)

-- the shapes of a page's program fit
abbrev pub ProgramsFit : Type 0
ProgramsFit = (page : Page) → ProgramFits (program_of page)
