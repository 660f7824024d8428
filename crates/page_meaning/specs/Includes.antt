-- Other pages: what an include or a forward names, the run of a page, and how its end is taken.
use Rattle.std.specs.Prelude.{ℕ, ◌&&◌, not, Bool, true, List, [], ◌∷◌, ◌++◌, length, is_none, unwrap_or, Some, Result, Ok, Err}
use Rattle.http_in.specs.Params.{params_in}
use Rattle.http_in.specs.Target.{before_query, query_of}
use Rattle.http_in.specs.declared.params.Param.{Param}
use Rattle.pg_text.specs.Path.{segments, resolved}
use Rattle.pg_text.specs.declared.place.Place.{Place}
use Rattle.pg_text.specs.declared.resolution.BadPath.{BadPath}
use Rattle.pg_value.specs.declared.fault.RunFault.TheVariants as fault
use Rattle.scopes.specs.Scopes.{with_frame, with_session}
use Rattle.site_words.specs.Law.{Answer}
use Rattle.page_meaning.specs.Bodies.{put_text}
use Rattle.page_meaning.specs.Context.{Served, Run, Here, in_page, Paged, absent, plain, bad, good, Deeper, no_deeper, deeper}
use Rattle.page_meaning.specs.Page.{Page, Nodes}
use Rattle.page_meaning.specs.State.{State, in_scopes, in_writer, with_asked}
use Rattle.site_words.specs.Running.{is_page}
use Rattle.site_words.specs.PageSteps.{fresh, told_id}
use Rattle.page_meaning.specs.Variables.{back_to}
use Rattle.page_meaning.specs.Went.{Did, Went, Well, Raised, Ended, Awaits, forwards, redirects, then_do, either}
use Rattle.page_meaning.specs.Work.{is_spent, fetched}
use Rattle.out_buffer.specs.Writer.{has_committed, with_bodies, cleared}

-- the path that a target names for a page, without its query
abbrev pub target_path : Run → List ℕ → Result (List ℕ) BadPath
target_path run target = resolved (segments (Some run.page.path) (before_query target))

-- the parameters of a target: those of its query, the given ones, and those of the page that names it
abbrev pub target_params : Run → List ℕ → List Param → List Param
target_params run target params = params_in (unwrap_or (query_of target) []) ++ params ++ run.params

-- whether the file at a path is a page
abbrev pub is_page_path : List ℕ → Bool
is_page_path path = is_page path

-- what stands at a path, a page being fetched: X11 where nothing does, X12 of a page with a fault
abbrev pub fetched_or_fault : Place → List ℕ → Paged → State → Went Paged
fetched_or_fault place path absent s = Raised fault.NoSuchPage place s
fetched_or_fault place path (plain t) s = Well (plain t) s
fetched_or_fault place path (bad f) s = Raised fault.BadPage place (fetched path s)
fetched_or_fault place path (good page) s = Well (good page) (fetched path s)

-- asks for what stands at a path: before all else X22, where a page is asked and the charge is spent
abbrev pub ask_page : Served → Place → List ℕ → State → Went Paged
ask_page served place path s = either (is_page_path path && is_spent s) (Raised fault.AppTooMuch place) (fetched_or_fault place path (served.pages path)) s

-- whether the run of a page starts a session
abbrev pub starts_session : Page → State → Bool
starts_session page s = page.settings.session && is_none s.scopes.session && not (has_committed s.writer)

-- with the session of the first answer
abbrev pub session_started : List Answer → State → Did
session_started [] s = Awaits fresh s
session_started (answer ∷ rest) s =
    Well tt (record (with_asked fresh s) { answers = rest; id = Some (told_id answer); is_fresh = true; scopes = with_session s.scopes })

-- the run of a page in the current frame: its session first, then its nodes
abbrev pub page_run : (Nodes → Here → State → Did) → Page → List Param → State → Did
page_run run page params s =
    then_do (either (starts_session page s) (session_started s.answers) (λ s1. Well tt s1) s) (λ u s1. run page.nodes (in_page (record { page = page; params = params })) s1)

-- how an included page's end is taken: its frame goes, its fault stands at the include, and a redirect ends that page alone
abbrev pub included_end : Place → (before : State) → Did → Did
included_end place before (Well u s) = Well u (back_to before.scopes s)
included_end place before (Raised f p s) = Raised f place (back_to before.scopes s)
included_end place before (Ended (redirects location) s) = Well tt (back_to before.scopes (in_writer (with_bodies (length before.writer.kept) s.writer) s))
included_end place before (Ended (forwards path params left) s) = Ended (forwards path params left) s
included_end place before (Awaits step s) = Awaits step s

-- includes what stands at a path: a page in a frame of its own, another file as text
abbrev pub included : (Nodes → Here → State → Did) → Place → List Param → Paged → State → Did
included run place params (good page) s = included_end place s (page_run run page params (in_scopes (with_frame s.scopes) s))
included run place params (plain t) s = put_text place t s
included run place params absent s = Well tt s
included run place params (bad f) s = Well tt s

-- a path of the tree one deeper: X17 at the greatest depth, then the path's own
abbrev pub include_path : Served → Deeper → Place → List Param → List ℕ → State → Did
include_path served no_deeper place params path s = Raised fault.TooDeep place s
include_path served (deeper left run) place params path s = then_do (ask_page served place path s) (λ paged s1. included run place params paged s1)

-- an include of what a target names: X11 where it names no path
abbrev pub include_at : Served → Deeper → Place → List Param → Result (List ℕ) BadPath → State → Did
include_at served deep place params (Ok path) s = include_path served deep place params path s
include_at served deep place params (Err reason) s = Raised fault.NoSuchPage place s

-- an include of a target by the page that runs
abbrev pub include_mean : Served → Deeper → Place → Run → (target : List ℕ) → List Param → State → Did
include_mean served deep place run target params s = include_at served deep place (target_params run target params) (target_path run target) s

-- the end of a page by a forward, with nothing left of its output
abbrev pub left_for : (path : List ℕ) → List Param → (left : ℕ) → State → Did
left_for path params left s = Ended (forwards path params left) (in_writer (cleared s.writer) s)

-- a forward to a path one deeper: X17 at the greatest depth, then the path's own
abbrev pub forward_path : Served → Deeper → Place → List Param → List ℕ → State → Did
forward_path served no_deeper place params path s = Raised fault.TooDeep place s
forward_path served (deeper left run) place params path s = then_do (ask_page served place path s) (λ paged s1. left_for path params left s1)

-- a forward to what a target names: X11 where it names no path
abbrev pub forward_at : Served → Deeper → Place → List Param → Result (List ℕ) BadPath → State → Did
forward_at served deep place params (Ok path) s = forward_path served deep place params path s
forward_at served deep place params (Err reason) s = Raised fault.NoSuchPage place s

-- a forward to a target by the page that runs: X9 where something was committed
abbrev pub forward_mean : Served → Deeper → Place → Run → (target : List ℕ) → List Param → State → Did
forward_mean served deep place run target params s =
    either (has_committed s.writer) (Raised fault.Committed place) (forward_at served deep place (target_params run target params) (target_path run target)) s
