-- Other pages, as an include finds them, for proofs alone.
use Rattle.std.specs.Prelude.{◌≡◌, ℕ, Bool, true, false, List, ◌++◌, Result, Ok, Err, ⊤}
use Rattle.http_in.specs.declared.params.Param.{Param}
use Rattle.page_machine.specs.declared.targets.Target as machine_target
use Rattle.page_machine.specs.declared.targets.TargetParams.{TargetParams}
use Rattle.page_machine.specs.declared.targets.TargetParams.TheVariants as named
use Rattle.page_meaning.specs.Context.{Run}
use Rattle.page_meaning.specs.Includes.{target_path, target_params, included_end}
use Rattle.page_meaning.specs.State.{State, in_scopes}
use Rattle.page_table.specs.Landing.{thrown, land}
use Rattle.page_table.specs.Move.{Move, On, Stuck}
use Rattle.page_table.specs.Open.{Open}
use Rattle.page_table.specs.Operations.{text_at, behind_first, params_in}
use Rattle.page_table.specs.Pages.{page_begun, page_entered, include_path}
use Rattle.page_table.specs.Program.{Program, Serving}
use Rattle.pg_text.specs.declared.failure.Failure.{Failure}
use Rattle.pg_text.specs.declared.failure.Failure.TheVariants as failure
use Rattle.pg_text.specs.declared.place.Place.{Place}
use Rattle.pg_text.specs.declared.resolution.BadPath.{BadPath}
use Rattle.pg_value.specs.Datum.{Datum}
use Rattle.pg_value.specs.declared.fault.RunFault.{RunFault}
use Rattle.pg_value.specs.declared.fault.RunFault.TheVariants as fault
use Rattle.scopes.specs.Scopes.{with_frame}

-- no path is named
abbrev pub IsNoPath : Result (List ℕ) BadPath → Type 0
IsNoPath (Ok path) = ⊥
IsNoPath (Err reason) = ⊤

-- the parameters that a target's are, where a page run names it
abbrev pub params_for : Run → TargetParams → List Param
params_for run named.Same = run.params
params_for run (named.Own own) = own ++ run.params

-- the target that the values on top name for a page run: its path and its parameters, or X11
abbrev pub TargetSo : Run → List Datum → Result machine_target.Target (Failure RunFault) → Type 0
TargetSo run ds (Ok found) = (target_path run (text_at 0 ds) ≡ Ok found.path) × (params_for run found.params ≡ target_params run (text_at 0 ds) (params_in (behind_first ds)))
TargetSo run ds (Err (failure.Fault f)) = (f ≡ fault.NoSuchPage) × IsNoPath (target_path run (text_at 0 ds))
TargetSo run ds (Err failure.NoMemory) = ⊤

-- the same of an import: X15 where its url has `://`
abbrev pub ImportSo : Bool → Run → List Datum → Result machine_target.Target (Failure RunFault) → Type 0
ImportSo true run ds found = found ≡ Err (failure.Fault fault.BadUrl)
ImportSo false run ds found = TargetSo run ds found

-- the include of a target that a page run names, or its fault
abbrev pub include_found : Run → Serving → Place → Result machine_target.Target (Failure RunFault) → (to : ℕ) → State → Open → Move
include_found run serving place (Ok found) to s o = include_path serving place (params_for run found.params) found.path to s o
include_found run serving place (Err (failure.Fault f)) to s o = On (thrown f place s o)
include_found run serving place (Err failure.NoMemory) to s o = Stuck

-- the run of an included page, in a frame of its own
abbrev pub included_run : Place → Program → List Param → (left to : ℕ) → State → Open → Move
included_run place program params left to s o =
    page_entered program params left (λ d. land to (λ u. o.stack) o (included_end place s d)) (page_begun program (in_scopes (with_frame s.scopes) s))
