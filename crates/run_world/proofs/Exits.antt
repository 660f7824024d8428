-- The exits of a `?` whose fault is the function's own.
use Rattle.std.proofs.Common.{◌≡◌, Result, Ok, Err, subst, sym, List}
use Rattle.std.specs.Prelude.{IsErrAnd}
use Rattle.run_world.specs.Origin.{Origin}
use Rattle.run_world.specs.Part.{Doing}
use Rattle.page_meaning.specs.State.{State}
use Rattle.page_meaning.specs.Went.{Went}
use Rattle.pg_text.specs.declared.failure.Failure.{Failure}
use Rattle.pg_text.specs.declared.place.Place.{Place}
use Rattle.pg_value.specs.declared.fault.RunFault.{RunFault}
use Rattle.site_words.specs.Law.{Answer}

pub err_as : {W A B : Type 0} {reached : W → Origin → W → State → Type 0} {replies : W → List Answer} {view : A → B} {part : Place → State → Went B} {old new : W} (result : Result A (Failure RunFault)) (e : Failure RunFault)
    → IsErrAnd result (λ f. f ≡ e) → Doing reached replies view part old new (Err e) → Doing reached replies view part old new result
err_as (Ok a) e is does = absurd is
err_as {reached = reached} {replies = replies} {view = view} {part = part} {old = old} {new = new} (Err f) e is does = subst (λ f. Doing reached replies view part old new (Err f)) (sym is) does
