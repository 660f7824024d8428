-- A page is left when what that asks for went well.
use Rattle.std.proofs.Common.{◌≡◌, ℕ, zero, suc, Bool, true, false, List, Result, Ok, Err, refl}
use Rattle.std.specs.List.{list_any}
use Rattle.http_in.specs.declared.params.Param.{Param}
use Rattle.out_buffer.specs.Writer.{has_committed}
use Rattle.run_moves.specs.Leaving.{Goal, redirect_asked, forward_path_asked, forward_at_asked, forward_asked}
use Rattle.page_meaning.specs.Addresses.{is_control, redirect_mean}
use Rattle.page_meaning.specs.Context.{Run, Paged}
use Rattle.page_meaning.specs.Includes.{ask_page, left_for, target_path, target_params, forward_path, forward_at, forward_mean}
use Rattle.page_meaning.specs.State.{State}
use Rattle.page_meaning.specs.Went.{Did, Went, Well, Raised, Ended, Awaits, redirects, then_do, either}
use Rattle.page_table.specs.Operations.{levels}
use Rattle.page_table.specs.Program.{Serving, served_of}
use Rattle.pg_text.specs.declared.place.Place.{Place}
use Rattle.pg_text.specs.declared.resolution.BadPath.{BadPath}
use Rattle.pg_value.specs.declared.fault.RunFault.TheVariants as fault

-- the page ends for its goal
abbrev pub leaves_for : Goal → State → Did
leaves_for g s = left_for g.path g.params g.left s

asked_is : (path : List ℕ) (params : List Param) (left : ℕ) (w : Went Paged)
    → then_do w (λ paged s1. left_for path params left s1) ≡ then_do (then_do w (λ paged s1. Well (record { path = path; params = params; left = left }) s1)) leaves_for
asked_is path params left (Well p s) = refl
asked_is path params left (Raised f at s) = refl
asked_is path params left (Ended leaving s) = refl
asked_is path params left (Awaits step s) = refl

path_is : (serving : Serving) (n : ℕ) (place : Place) (params : List Param) (path : List ℕ) (s : State)
    → forward_path (served_of serving) (levels n) place params path s ≡ then_do (forward_path_asked serving n place params path s) leaves_for
path_is serving zero place params path s = refl
path_is serving (suc left) place params path s = asked_is path params left (ask_page (served_of serving) place path s)

at_is : (serving : Serving) (n : ℕ) (place : Place) (params : List Param) (path : Result (List ℕ) BadPath) (s : State)
    → forward_at (served_of serving) (levels n) place params path s ≡ then_do (forward_at_asked serving n place params path s) leaves_for
at_is serving n place params (Ok path) s = path_is serving n place params path s
at_is serving n place params (Err reason) s = refl

pub forward_is : (serving : Serving) (n : ℕ) (place : Place) (run : Run) (target : List ℕ) (params : List Param) (s : State)
    → forward_mean (served_of serving) (levels n) place run target params s ≡ then_do (forward_asked serving n place run target params s) leaves_for
forward_is serving n place run target params s = go (has_committed s.writer)
  where
    go : (b : Bool) → either b (Raised fault.Committed place) (forward_at (served_of serving) (levels n) place (target_params run target params) (target_path run target)) s
        ≡ then_do (either b (Raised fault.Committed place) (forward_at_asked serving n place (target_params run target params) (target_path run target)) s) leaves_for
    go true = refl
    go false = at_is serving n place (target_params run target params) (target_path run target) s

pub redirect_is : (place : Place) (url : List ℕ) (s : State) → redirect_mean place url s ≡ then_do (redirect_asked place url s) (λ t s1. Ended (redirects t) s1)
redirect_is place url s = go (has_committed s.writer) (list_any is_control url)
  where
    go : (b c : Bool) → either {A = Unit} b (Raised fault.Committed place) (either {A = Unit} c (Raised fault.BadUrl place) (Ended (redirects url))) s
        ≡ then_do (either {A = List ℕ} b (Raised fault.Committed place) (either {A = List ℕ} c (Raised fault.BadUrl place) (Well url)) s) (λ t s1. Ended (redirects t) s1)
    go true c = refl
    go false true = refl
    go false false = refl
