-- What a page and its forwards answer.
use Rattle.std.specs.Prelude.{◌≡◌, ℕ, false, List, [], ◌++◌, Option, Some, None, Result, Ok, Err, ⊤}
use Rattle.std.specs.Arc.{arc_value}
use Rattle.http_in.specs.declared.params.Param.{Param}
use Rattle.http_in.specs.declared.request.Request.{Request}
use Rattle.http_out.specs.declared.status.Status.{Status}
use Rattle.out_buffer.specs.Held.{Held}
use Rattle.run_pages.specs.Run.{StandsFor}
use Rattle.page_meaning.specs.Context.{Served}
use Rattle.page_meaning.specs.Page.{Page}
use Rattle.page_meaning.specs.Respond.{OnFault}
use Rattle.page_meaning.specs.Response.{Answered}
use Rattle.page_meaning.specs.State.{State}
use Rattle.request_pages.specs.PageEnd.{reply_answer}
use Rattle.request_pages.specs.Point.{Point, PointStands}
use Rattle.request_pages.specs.Ready.{IsProgramIn}
use Rattle.request_pages.specs.Within.{GoesWithin}
use Rattle.request_pages.specs.declared.chain.ChainEnd.{ChainEnd}
use Rattle.request_pages.specs.declared.chain.ChainEnd.TheVariants as ended
use Rattle.request_pages.specs.declared.reply.Reply.TheVariants as reply
use Rattle.response_laws.specs.Laws.{FaultsGrow, chain_of}
use Rattle.run_world.specs.Origin.{Origin}
use Rattle.run_world.specs.Part.{given}
use Rattle.run_world.specs.Seats.{raise_of}
use Rattle.site_words.specs.Law.{Answer}
use Rattle.source_tree.specs.declared.file.File.{File}

-- the parameters of a page's run: its own, or those of the request
abbrev pub params_of : Request → Option (List Param) → List Param
params_of request None = request.params
params_of request (Some params) = params

-- the page whose run the chain ended in, where a fault ended it
abbrev pub IsEndPage : List File → ChainEnd → Page → Type 0
IsEndPage tree (ended.Done r) page = ⊤
IsEndPage tree (ended.Failed failure) page = IsProgramIn (arc_value failure.program) tree page

-- nothing was committed but what the writer holds, and it breaks off only behind a commit
abbrev pub IsEndOpen : ChainEnd → List (List ℕ) → Type 0
IsEndOpen (ended.Done (reply.Written broken)) pieces = pieces ≡ [] → broken ≡ false
IsEndOpen other pieces = pieces ≡ []

-- what the end of a chain answers
abbrev pub end_answer : OnFault → Held → Page → Request → ChainEnd → State → Answered
end_answer at_fault held page request (ended.Done r) s = reply_answer held r s
end_answer at_fault held page request (ended.Failed failure) s = at_fault page (params_of request failure.own) (raise_of failure.raise) s

-- a chain answers as it ended, whatever is done with its fault and whatever answers are still to
-- come; where memory ran out it went no further than it goes, behind its head
abbrev pub ChainedSo : {E : Type 0} → (answers : OnFault → List Answer → Answered) → Request → List File → Held → (after : State) → Result ChainEnd E → Type 0
ChainedSo answers request tree held after (Ok end) =
    (last : Page) × IsEndPage tree end last × IsEndOpen end after.writer.pieces × ((at_fault : OnFault) (future : List Answer) → answers at_fault future ≡ end_answer at_fault held last request end (given future after))
ChainedSo answers request tree held after (Err e) = (at_fault : OnFault) → FaultsGrow at_fault → (future : List Answer) → GoesWithin held.head after (answers at_fault future)

-- a page and its forwards from a state: the answers that they got, the state in which they ended, and how
pub record Chained (answers : OnFault → List Answer → State → Answered) (request : Request) (tree : List File) (stands : State → Type 0) (s : State) (old new : List Answer) (held : Held) {E : Type 0} (result : Result ChainEnd E) : Type 0 where
  pub got : List Answer
  pub replies : new ≡ old ++ got
  pub after : State
  pub stood : stands after
  pub ends : ChainedSo (λ at_fault future. answers at_fault (got ++ future) s) request tree held after result

-- the same from each state for which one point of the request stands, to another
abbrev pub ChainsFrom : {E : Type 0} → (answers : OnFault → List Answer → State → Answered) → Request → List File → (old new : Point) → Result ChainEnd E → Type 0
ChainsFrom answers request tree old new result =
    (origin : Origin) (s : State) → PointStands origin old s
    → Chained answers request tree (StandsFor origin new.state.scopes new.state.writer new.taken new.faults new.state.around new.asking) s old.asking.answers new.asking.answers new.state.writer result

-- what a chain of pages answers under these answers to its steps
abbrev pub chain_answers : Served → Status → (left : ℕ) → Page → List Param → OnFault → List Answer → State → Answered
chain_answers served status left page params at_fault answers s = chain_of served at_fault status left page params (given answers s)
