-- The beginning of a page's run and what a path of the tree is asked are tame; a forward and a redirect never go on.
use Rattle.std.proofs.Common.{◌≡◌, ℕ, zero, suc, Bool, true, false, List, [], ◌∷◌, Result, Ok, Err, refl, arith, length}
use Rattle.std.specs.Prelude.{◌&&◌}
use Rattle.std.specs.List.{list_any}
use Rattle.http_in.specs.declared.params.Param.{Param}
use Rattle.jstl_functions.specs.Texts.{contains_part}
use Rattle.out_buffer.specs.Writer.{has_committed, cleared}
use Rattle.pg_text.specs.declared.place.Place.{Place}
use Rattle.pg_text.specs.declared.resolution.BadPath.{BadPath}
use Rattle.pg_value.specs.declared.fault.RunFault.TheVariants as fault
use Rattle.site_words.specs.Law.{Answer}
use Rattle.std.specs.Prelude.{codes}
use Rattle.page_meaning.specs.Addresses.{is_control, local_url, redirect_mean}
use Rattle.page_meaning.specs.Context.{Served, Run, Paged, absent, plain, bad, good}
use Rattle.page_meaning.specs.Growth.{state_of, Grows}
use Rattle.page_meaning.specs.Includes.{target_path, target_params, is_page_path, fetched_or_fault, ask_page, starts_session, session_started, left_for, forward_path, forward_at, forward_mean}
use Rattle.page_meaning.specs.State.{State, in_writer}
use Rattle.site_words.specs.PageSteps.{fresh, fetch}
use Rattle.page_meaning.specs.Went.{Went, Did, Well, Raised, Ended, Awaits, Leaving, forwards, redirects, then_do, either}
use Rattle.page_meaning.specs.Work.{is_spent, fetched}
use Rattle.page_table.specs.Operations.{levels}
use Rattle.page_table.specs.Pages.{page_begun}
use Rattle.page_table.specs.Program.{Program, page_of}
use Rattle.page_meaning.proofs.Growing.{asks, both, quiet, same, starts, uncommitted_start}
use Rattle.page_table.proofs.Tame.{Keeps, keeps_same, TameAt, keeps_at, Tame, Calm, well, raised, changed, behind, eithers}

-- a session's start
started_keeps : (s : State) (answers : List Answer) → has_committed s.writer ≡ false → TameAt s (session_started answers s)
started_keeps s [] free = record { grows = same s; bodies = refl; visits = omega arith; frames = omega arith }
started_keeps s (answer ∷ rest) free =
    record { grows = starts s (state_of (session_started (answer ∷ rest) s)) free (fresh ∷ [], refl) (length s.writer.pieces ∷ [], refl) refl; bodies = refl; visits = omega arith; frames = omega arith }

pub page_begun_keeps : (program : Program) (s : State) → TameAt s (page_begun program s)
page_begun_keeps program s = go (starts_session (page_of program) s) (uncommitted_start (page_of program) s)
  where
    go : (b : Bool) → (b ≡ true → has_committed s.writer ≡ false) → TameAt s (either b (session_started s.answers) (λ s1. Well tt s1) s)
    go true free = started_keeps s s.answers (free refl)
    go false free = well tt s

-- what stands at a path
fetched_keeps : (path : List ℕ) → Calm (fetched path)
fetched_keeps path s = record { grows = asks (fetch path) s (fetched path s) refl refl refl; bodies = refl; visits = omega arith; frames = omega arith }

fetched_tame : (place : Place) (path : List ℕ) (paged : Paged) → Tame (fetched_or_fault place path paged)
fetched_tame place path absent = raised fault.NoSuchPage place
fetched_tame place path (plain t) = well (plain t)
fetched_tame place path (bad f) = behind (Raised fault.BadPage place) (fetched path) (fetched_keeps path) (raised fault.BadPage place)
fetched_tame place path (good page) = changed (good page) (fetched path) (fetched_keeps path)

pub ask_page_tame : (served : Served) (place : Place) (path : List ℕ) → Tame (ask_page served place path)
ask_page_tame served place path s =
    eithers (is_page_path path && is_spent s) (Raised fault.AppTooMuch place) (fetched_or_fault place path (served.pages path)) (raised fault.AppTooMuch place)
    (fetched_tame place path (served.pages path)) s

pub local_url_tame : (place : Place) (target : List ℕ) → Tame (local_url place target (λ s1. Well tt s1))
local_url_tame place target = eithers (contains_part (codes "://") target) (Raised fault.BadUrl place) (λ s1. Well tt s1) (raised fault.BadUrl place) (well tt)

-- a redirect keeps the bodies, a forward drops them
abbrev pub GoneBy : State → Leaving → State → Type 0
GoneBy s (redirects location) t = Keeps s t
GoneBy s (forwards path params left) t = Grows s t

pub gone_grows : (s : State) (leaving : Leaving) (t : State) → GoneBy s leaving t → Grows s t
gone_grows s (redirects location) t h = h.grows
gone_grows s (forwards path params left) t h = h

-- a part that never goes on, and keeps the bodies where a fault ends it
abbrev pub Gone : State → Did → Type 0
Gone s (Well u t) = ⊥
Gone s (Raised f place t) = Keeps s t
Gone s (Ended leaving t) = GoneBy s leaving t
Gone s (Awaits step t) = Grows s t

gone_either : (b : Bool) (one other : State → Did) (s : State) → Gone s (one s) → Gone s (other s) → Gone s (either b one other s)
gone_either true one other s h g = h
gone_either false one other s h g = g

left_gone : {A : Type 0} (path : List ℕ) (params : List Param) (left : ℕ) (s : State) (w : Went A) → TameAt s w → Gone s (then_do w (λ a s1. left_for path params left s1))
left_gone path params left s (Well a t) h = both s t (in_writer (cleared t.writer) t) h.grows (quiet t (in_writer (cleared t.writer) t) refl refl refl)
left_gone path params left s (Raised f place t) h = keeps_at s (Raised f place t) h
left_gone path params left s (Ended (redirects location) t) h = keeps_at s (Ended (redirects location) t) h
left_gone path params left s (Ended (forwards other more l) t) h = h.grows
left_gone path params left s (Awaits step t) h = h.grows

forward_path_gone : (served : Served) (n : ℕ) (place : Place) (params : List Param) (path : List ℕ) (s : State) → Gone s (forward_path served (levels n) place params path s)
forward_path_gone served zero place params path s = keeps_same s
forward_path_gone served (suc n) place params path s = left_gone path params n s (ask_page served place path s) (ask_page_tame served place path s)

forward_at_gone : (served : Served) (n : ℕ) (place : Place) (params : List Param) (r : Result (List ℕ) BadPath) (s : State) → Gone s (forward_at served (levels n) place params r s)
forward_at_gone served n place params (Ok path) s = forward_path_gone served n place params path s
forward_at_gone served n place params (Err reason) s = keeps_same s

pub forward_gone : (served : Served) (n : ℕ) (place : Place) (run : Run) (target : List ℕ) (params : List Param) (s : State) → Gone s (forward_mean served (levels n) place run target params s)
forward_gone served n place run target params s =
    gone_either (has_committed s.writer) (Raised fault.Committed place) (forward_at served (levels n) place (target_params run target params) (target_path run target)) s (keeps_same s)
    (forward_at_gone served n place (target_params run target params) (target_path run target) s)

pub redirect_gone : (place : Place) (url : List ℕ) (s : State) → Gone s (redirect_mean place url s)
redirect_gone place url s =
    gone_either (has_committed s.writer) (Raised fault.Committed place) (either (list_any is_control url) (Raised fault.BadUrl place) (Ended (redirects url))) s (keeps_same s)
    (gone_either (list_any is_control url) (Raised fault.BadUrl place) (Ended (redirects url)) s (keeps_same s) (keeps_same s))
