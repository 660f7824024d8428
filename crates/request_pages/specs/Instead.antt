-- What comes instead of a page whose run a fault ended.
use Rattle.std.specs.Prelude.{◌≡◌, ℕ, List, [], ◌++◌, Option, Some, None, codes, OnOk}
use Rattle.std.specs.Arc.{arc_value}
use Rattle.compiled_pages.specs.Made.{IsProgramOf}
use Rattle.http_out.specs.Head.{plain_type}
use Rattle.http_out.specs.declared.status.Status.TheVariants as status_is
use Rattle.out_buffer.specs.Held.{Held}
use Rattle.run_pages.specs.Run.{StandsFor}
use Rattle.page_meaning.specs.Faults.{Raise, run_fault_line}
use Rattle.page_meaning.specs.Page.{Page}
use Rattle.page_meaning.specs.Respond.{error_path}
use Rattle.page_meaning.specs.Response.{Answered}
use Rattle.page_meaning.specs.State.{State}
use Rattle.page_meaning.specs.Work.{fetched}
use Rattle.request_pages.specs.Closed.{Closed, Reached}
use Rattle.request_pages.specs.declared.instead.Instead.{Instead}
use Rattle.request_pages.specs.declared.instead.Instead.TheVariants as instead
use Rattle.request_pages.specs.declared.reply.Reply.{Reply}
use Rattle.request_pages.specs.declared.reply.Reply.TheVariants as reply
use Rattle.run_world.specs.Origin.{Origin}
use Rattle.run_world.specs.declared.around.Around.{Around}
use Rattle.run_world.specs.declared.program.Program.{Program}
use Rattle.scopes.specs.Scopes.{ScopeState}
use Rattle.site_words.specs.Law.{Answer}
use Rattle.site_words.specs.Running.{Asking, IsPageFile}
use Rattle.source_tree.specs.Edits.{file_at}
use Rattle.source_tree.specs.declared.file.File.{File}

-- this is the program of a page's error page, which was fetched
pub record IsErrorPage (tree : List File) (page : Page) (program : Program) (stands : State → Type 0) (s : State) : Type 0 where
  pub path : List ℕ
  pub named : error_path page ≡ Some path
  pub there : IsPageFile path (file_at path tree)
  pub made : IsProgramOf program tree path
  pub stood : stands (fetched path s)

-- the reply is the line of a fault
abbrev pub IsLineOf : Raise → Reply → Type 0
IsLineOf r line = line ≡ reply.Whole status_is.InternalServerError (Some plain_type) None (run_fault_line r ++ codes "\n")

-- it is the page's error page, with the line of the fault; or an answer, which closes what the fault is answered
abbrev pub InsteadSo : (answers : List Answer → State → Answered) → List File → Page → Raise → (stands reached : State → Type 0) → State → (old new : List Answer) → Held → Instead → Type 0
InsteadSo answers tree page r stands reached s old new held (instead.Page program line) = IsErrorPage tree page (arc_value program) stands s × IsLineOf r line × (new ≡ old)
InsteadSo answers tree page r stands reached s old new held (instead.Told answer) = Closed answers reached s old new held answer

-- what comes instead of a page, from the state in which a fault ended its run
pub record ComesInstead (answers : List Answer → State → Answered) (tree : List File) (page : Page) (r : Raise) (stands reached : State → Type 0) (s : State) (old new : List Answer) (held : Held) (comes : Instead) : Type 0 where
  pub so : InsteadSo answers tree page r stands reached s old new held comes

-- the same from each state for which the rest stands and in which nothing was committed
abbrev pub FindsInstead : (answers : List Answer → State → Answered) → List File → Page → Raise → (old new : Around) → (before now : Asking) → Instead → Type 0
FindsInstead answers tree page r old new before now comes =
    (origin : Origin) (scopes : ScopeState) (held : Held) (taken : Option (List ℕ)) (faults : ℕ) (s : State) → StandsFor origin scopes held taken faults old before s → s.writer.pieces ≡ []
    → ComesInstead answers tree page r (StandsFor origin scopes held taken faults new now) (Reached origin scopes held taken faults new now) s before.answers now.answers held comes

-- this holds, unless memory ran out
abbrev pub UnlessShort : Instead → Type 0 → Type 0
UnlessShort (instead.Page program line) fact = fact
UnlessShort (instead.Told answer) fact = OnOk answer fact
