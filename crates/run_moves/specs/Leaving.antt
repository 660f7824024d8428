-- What is asked before a page is left, for proofs alone.
use Rattle.std.specs.Prelude.{ℕ, zero, suc, List, Result, Ok, Err}
use Rattle.std.specs.List.{list_any}
use Rattle.http_in.specs.declared.params.Param.{Param}
use Rattle.out_buffer.specs.Writer.{has_committed}
use Rattle.run_moves.specs.declared.leave.Forward as machine_forward
use Rattle.page_meaning.specs.Addresses.{is_control}
use Rattle.page_meaning.specs.Context.{Run}
use Rattle.page_meaning.specs.Includes.{ask_page, target_path, target_params}
use Rattle.page_meaning.specs.State.{State}
use Rattle.page_meaning.specs.Went.{Went, Well, Raised, then_do, either}
use Rattle.page_table.specs.Program.{Serving, served_of}
use Rattle.pg_text.specs.declared.place.Place.{Place}
use Rattle.pg_text.specs.declared.resolution.BadPath.{BadPath}
use Rattle.pg_value.specs.declared.fault.RunFault.{RunFault}
use Rattle.pg_value.specs.declared.fault.RunFault.TheVariants as fault

-- where a page is left for: a path, its parameters, and the levels left below it
pub record Goal : Type 0 where
  pub path : List ℕ
  pub params : List Param
  pub left : ℕ

abbrev pub goal_of : machine_forward.Forward → Goal
goal_of f = record { path = f.path; params = f.params; left = f.left }

-- the address of a redirect: X9, X15
abbrev pub redirect_asked : Place → List ℕ → State → Went (List ℕ)
redirect_asked place url s = either (has_committed s.writer) (Raised fault.Committed place) (either (list_any is_control url) (Raised fault.BadUrl place) (Well url)) s

-- the path that a target names: X11 where it names none
abbrev pub path_named : Result (List ℕ) BadPath → Result (List ℕ) RunFault
path_named (Ok path) = Ok path
path_named (Err reason) = Err fault.NoSuchPage

-- the target of a forward to a path: X17, then the path's own
abbrev pub forward_path_asked : Serving → (levels : ℕ) → Place → List Param → List ℕ → State → Went Goal
forward_path_asked serving zero place params path s = Raised fault.TooDeep place s
forward_path_asked serving (suc left) place params path s =
    then_do (ask_page (served_of serving) place path s) (λ paged s1. Well (record { path = path; params = params; left = left }) s1)

-- the same to what a target names: X11
abbrev pub forward_at_asked : Serving → (levels : ℕ) → Place → List Param → Result (List ℕ) BadPath → State → Went Goal
forward_at_asked serving levels place params (Ok path) s = forward_path_asked serving levels place params path s
forward_at_asked serving levels place params (Err reason) s = Raised fault.NoSuchPage place s

-- the target of a forward by the page that runs: X9
abbrev pub forward_asked : Serving → (levels : ℕ) → Place → Run → (target : List ℕ) → List Param → State → Went Goal
forward_asked serving levels place run target params s =
    either (has_committed s.writer) (Raised fault.Committed place) (forward_at_asked serving levels place (target_params run target params) (target_path run target)) s
