-- Other pages: the beginning of a page's run, and includes.
use Rattle.std.specs.Prelude.{ℕ, List, [], Result, Ok, Err}
use Rattle.http_in.specs.declared.params.Param.{Param}
use Rattle.pg_text.specs.declared.place.Place.{Place}
use Rattle.pg_text.specs.declared.resolution.BadPath.{BadPath}
use Rattle.pg_value.specs.declared.fault.RunFault.TheVariants as fault
use Rattle.scopes.specs.Scopes.{with_frame}
use Rattle.page_meaning.specs.Addresses.{local_url}
use Rattle.page_meaning.specs.Bodies.{put_text}
use Rattle.page_meaning.specs.Context.{Run}
use Rattle.page_meaning.specs.Includes.{target_path, target_params, ask_page, starts_session, session_started, included_end}
use Rattle.page_meaning.specs.State.{State, in_scopes}
use Rattle.page_meaning.specs.Went.{Did, Well, Raised, Ended, Awaits, either}
use Rattle.page_table.specs.Landing.{Config, Running, thrown, land}
use Rattle.page_table.specs.Move.{Move, On, Into, then_move, one_deeper}
use Rattle.page_table.specs.Open.{Open, fresh_open}
use Rattle.page_table.specs.Program.{Program, Stored, absent, plain, bad, good, Serving, page_of, served_of}
use Rattle.page_table.specs.Seat.{in_page}

-- the beginning of a page's run: its session, where it starts one
abbrev pub page_begun : Program → State → Did
page_begun program s = either (starts_session (page_of program) s) (session_started s.answers) (λ s1. Well tt s1) s

-- a page's run behind its beginning, which may be its end too
abbrev pub page_entered : Program → List Param → (left : ℕ) → (back : Did → Config) → Did → Move
page_entered program params left back (Well u s) = Into (in_page program params) (Running 0 s (fresh_open left)) back
page_entered program params left back (Raised fault place s) = On (back (Raised fault place s))
page_entered program params left back (Ended leaving s) = On (back (Ended leaving s))
page_entered program params left back (Awaits step s) = On (back (Awaits step s))

-- includes what stands at a path: a page in a frame of its own, another file as text
abbrev pub included : Place → List Param → (left : ℕ) → Stored → (to : ℕ) → State → Open → Move
included place params left (good program) to s o =
    page_entered program params left (λ d. land to (λ u. o.stack) o (included_end place s d)) (page_begun program (in_scopes (with_frame s.scopes) s))
included place params left (plain t) to s o = On (land to (λ u. o.stack) o (put_text place t s))
included place params left absent to s o = On (Running to s o)
included place params left (bad f) to s o = On (Running to s o)

-- a path of the tree one deeper: X17 at the greatest depth, then the path's own
abbrev pub include_path : Serving → Place → List Param → List ℕ → (to : ℕ) → State → Open → Move
include_path serving place params path to s o =
    one_deeper place s o o.left (λ left. then_move o (ask_page (served_of serving) place path s) (λ paged s1. included place params left (serving.stored path) to s1 o))

-- an include of what a target names: X11 where it names no path
abbrev pub include_at : Serving → Place → List Param → Result (List ℕ) BadPath → (to : ℕ) → State → Open → Move
include_at serving place params (Ok path) to s o = include_path serving place params path to s o
include_at serving place params (Err reason) to s o = On (thrown fault.NoSuchPage place s o)

-- an include of a target by the page that runs
abbrev pub include_called : Serving → Place → Run → (target : List ℕ) → List Param → (to : ℕ) → State → Open → Move
include_called serving place run target params to s o = include_at serving place (target_params run target params) (target_path run target) to s o

-- an import: X15 of a url with `://`, else an include
abbrev pub import_called : Serving → Place → Run → (target : List ℕ) → (to : ℕ) → State → Open → Move
import_called serving place run target to s o = then_move o (local_url place target (λ s1. Well tt s1) s) (λ u s1. include_called serving place run target [] to s1 o)
