-- Laws of the meaning: what is true of every run.
use Rattle.std.specs.Prelude.{◌≡◌, ◌≤◌, ℕ, suc, true, List, [], ◌∷◌, ◌++◌, Option}
use Rattle.el_reader.specs.Tree.{Tree, Trees, Pairs}
use Rattle.http_in.specs.declared.params.Param.{Param}
use Rattle.http_in.specs.declared.request.Request.{Request}
use Rattle.http_out.specs.Response.{Response}
use Rattle.http_out.specs.declared.status.Status.{Status}
use Rattle.pg_text.specs.declared.place.Place.{Place}
use Rattle.pg_value.specs.Datum.{Datum}
use Rattle.pg_value.specs.declared.fault.RunFault.TheVariants as fault
use Rattle.scopes.specs.Scopes.{Entries}
use Rattle.site_words.specs.Law.{Answer}
use Rattle.page_meaning.specs.Attributes.{Coercion}
use Rattle.page_meaning.specs.Context.{Served, Run, Here, in_tag, Called, source_text, body_nodes, Paged, no_deeper, deeper}
use Rattle.page_meaning.specs.Expressions.{ev, ev_all, ev_pairs}
use Rattle.page_meaning.specs.Fragments.{fragment_mean}
use Rattle.page_meaning.specs.Growth.{state_of, with_more, Grows, GoesOn, Leaves, takes_answer}
use Rattle.page_meaning.specs.Includes.{include_path, forward_path}
use Rattle.page_meaning.specs.Meaning.{node_mean, nodes_mean, attributes_mean, params_mean, branches_mean, below}
use Rattle.page_meaning.specs.Page.{Page, Node, Nodes, Attributes, Params, Branches}
use Rattle.page_meaning.specs.Respond.{OnFault, FoundSession, chain_answer, level_limit, respond}
use Rattle.page_meaning.specs.Response.{Answered, responds, awaits, end_state}
use Rattle.page_meaning.specs.State.{State, with_asked}
use Rattle.site_words.specs.PageSteps.{Step}
use Rattle.page_meaning.specs.Tags.{call_run}
use Rattle.page_meaning.specs.Went.{Went, Raised}

-- a statement holds of every part of a page, wherever it runs, with any number of levels left
pub record OfEveryPart (P : (left : ℕ) → (A : Type 0) → (State → Went A) → Type 0) : Type 0 where
  pub expression : (left : ℕ) (served : Served) (here : Here) (place : Place) (e : Tree) → P left Datum (ev served here place e)
  pub expressions : (left : ℕ) (served : Served) (here : Here) (place : Place) (es : Trees) → P left (List Datum) (ev_all served here place es)
  pub pairs : (left : ℕ) (served : Served) (here : Here) (place : Place) (ps : Pairs) → P left (List (Datum × Datum)) (ev_pairs served here place ps)
  pub node : (left : ℕ) (served : Served) (n : Node) (here : Here) → P left Unit (node_mean served (below served left) n here)
  pub nodes : (left : ℕ) (served : Served) (ns : Nodes) (here : Here) → P left Unit (nodes_mean served (below served left) ns here)
  pub attributes : (left : ℕ) (served : Served) (list : Attributes) (here : Here) (coercion : List ℕ → Coercion)
      → P left (List Datum) (attributes_mean served (below served left) list here coercion)
  pub params : (left : ℕ) (served : Served) (ps : Params) (here : Here) → P left (List Param) (params_mean served (below served left) ps here)
  pub branches : (left : ℕ) (served : Served) (bs : Branches) (here : Here) → P left Unit (branches_mean served (below served left) bs here)

-- steps asked and committed pieces only grow, later steps come behind all that was committed, and behind a commit no session starts
abbrev pub StepsAndPiecesGrow : Type 0
StepsAndPiecesGrow = OfEveryPart (λ left A part. (s : State) → Grows s (state_of (part s)))

-- under more answers a part goes as under fewer, and where it waited for a step, it goes on from there: a missing answer has no other effect
abbrev pub MoreAnswersGoOn : Type 0
MoreAnswersGoOn = OfEveryPart (λ left A part. (s : State) (more : List Answer) → GoesOn more (part s) (part (with_more more s)))

-- a forward leaves fewer levels, and nothing was committed before a forward or a redirect
abbrev pub ForwardsLeaveFewer : Type 0
ForwardsLeaveFewer = OfEveryPart (λ left A part. (s : State) → Leaves left (part s))

-- so a chain of forwards ends: where as many forwards may come as there are levels, it doesn't matter how many more may
abbrev pub ChainsEnd : Type 0
ChainsEnd =
    (served : Served) (at_fault : OnFault) (status : Status) (n m left : ℕ) (page : Page) (params : List Param) (s : State) → left ≤ n → left ≤ m
    → chain_answer served at_fault status n left page params s ≡ chain_answer served at_fault status m left page params s

-- there are 100 levels, what runs one deeper has one less, and with none left a call, an include, a given fragment and a forward are X17
pub record HundredLevels : Type 0 where
  pub levels : level_limit ≡ 100
  pub one_less : (served : Served) (left : ℕ) → below served (suc left) ≡ deeper left (nodes_mean served (below served left))
  pub none : (served : Served) → below served 0 ≡ no_deeper
  pub calls : (place : Place) (call : Called) (entries : Entries) (here : Here) (s : State) → call_run no_deeper place call entries here s ≡ Raised fault.TooDeep place s
  pub includes : (served : Served) (place : Place) (params : List Param) (path : List ℕ) (s : State) → include_path served no_deeper place params path s ≡ Raised fault.TooDeep place s
  pub forwards : (served : Served) (place : Place) (params : List Param) (path : List ℕ) (s : State) → forward_path served no_deeper place params path s ≡ Raised fault.TooDeep place s
  pub fragments : (place : Place) (nodes : Nodes) (run : Run) (call : Called) (caller : Here) (s : State)
      → fragment_mean no_deeper place (body_nodes nodes) (in_tag run call caller) s ≡ Raised fault.TooDeep place s
  pub bodies : (place : Place) (text : List ℕ) (run : Run) (call : Called) (caller : Here) (s : State)
      → fragment_mean no_deeper place (source_text text) (in_tag run call caller) s ≡ Raised fault.TooDeep place s

-- what waited for a step waits for it still, or, where there is an answer, has asked it and gone on
abbrev pub RequestAsksOn : Step → State → List Answer → Answered → Type 0
RequestAsksOn step s [] a = a ≡ awaits step (with_more [] s)
RequestAsksOn step s (answer ∷ rest) a = Grows (with_asked step s) (end_state a)

-- under more answers a request is answered as it was; where it waited for a step, no answer was left, it goes on from there, and the step is one that
-- has an answer
abbrev pub RequestGoesOn : List Answer → Answered → Answered → Type 0
RequestGoesOn more (responds response s) a = a ≡ responds response (with_more more s)
RequestGoesOn more (awaits step s) a = (s.answers ≡ []) × RequestAsksOn step s more a × (takes_answer step ≡ true)

-- a request goes on so
abbrev pub RequestsGoOn : Type 0
RequestsGoOn =
    (pages : (path : List ℕ) → Paged) (request : Request) (session : Option FoundSession) (answers more : List Answer)
    → RequestGoesOn more (respond pages request session answers) (respond pages request session (answers ++ more))

-- what a response has committed is what was committed in the end
abbrev pub HasPieces : Answered → Type 0
HasPieces (responds response s) = response.pieces ≡ s.writer.pieces
HasPieces (awaits step s) = Unit {0}

-- the pieces of a response are those that its pages committed
abbrev pub PiecesAreCommitted : Type 0
PiecesAreCommitted = (pages : (path : List ℕ) → Paged) (request : Request) (session : Option FoundSession) (answers : List Answer) → HasPieces (respond pages request session answers)

-- a request that needs no answer is answered alike whatever the answers
abbrev pub AnswersAreUnused : Type 0
AnswersAreUnused =
    (pages : (path : List ℕ) → Paged) (request : Request) (session : Option FoundSession) (response : Response) (s : State)
    → respond pages request session [] ≡ responds response s → (answers : List Answer) → respond pages request session answers ≡ responds response (with_more answers s)
