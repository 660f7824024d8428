-- A failure that is passed on.
use Rattle.std.proofs.Common.{◌≡◌, sym, subst, Result, Err}
use Rattle.pg_text.specs.declared.failure.Failure.{Failure}
use Rattle.pg_text.specs.declared.failure.Failure.TheVariants.{Fault, NoMemory}
use Rattle.pg_text.specs.Failure.{AnswersAs}

passed : {A B C D E : Type 0} (view : A → B) (inner_view : C → D) (meant : Result B E) (inner : Result D E) (failed : Failure E) → AnswersAs inner_view inner (Err failed) → ((fault : E) → inner ≡ Err fault → meant ≡ Err fault) → AnswersAs view meant (Err failed)
passed view inner_view meant inner (Fault fault) holds more = more fault holds
passed view inner_view meant inner NoMemory holds more = tt

pub passed_on : {A B C D E : Type 0} (view : A → B) (inner_view : C → D) (meant : Result B E) (inner : Result D E) (result : Result A (Failure E)) (failed other : Failure E) → result ≡ Err other → other ≡ failed → AnswersAs inner_view inner (Err failed)
    → ((fault : E) → inner ≡ Err fault → meant ≡ Err fault) → AnswersAs view meant result
passed_on view inner_view meant inner result failed other is same holds more =
    subst (λ r. AnswersAs view meant r) (sym is) (subst (λ e. AnswersAs view meant (Err e)) (sym same) (passed view inner_view meant inner failed holds more))
