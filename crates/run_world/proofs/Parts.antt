-- How calls that each do a part of the meaning are joined.
use Rattle.std.proofs.Common.{◌≡◌, List, [], ◌++◌, Result, Ok, Err, refl, sym, ap, ◌∙◌, subst, append_assoc, append-nil}
use Rattle.std.specs.Prelude.{IsErrAnd}
use Rattle.pg_text.specs.Failure.{AnswersAs}
use Rattle.pg_text.specs.declared.failure.Failure.{Failure}
use Rattle.pg_text.specs.declared.failure.Failure.TheVariants as failure
use Rattle.pg_text.specs.declared.place.Place.{Place}
use Rattle.pg_value.specs.declared.fault.RunFault.{RunFault}
use Rattle.site_words.specs.Law.{Answer}
use Rattle.run_world.specs.Origin.{Origin}
use Rattle.page_meaning.specs.Growth.{state_of, Grows}
use Rattle.page_meaning.specs.State.{State}
use Rattle.page_meaning.specs.Went.{Went, Well, then_do, result_of}
use Rattle.run_world.specs.Part.{given, WentSo, Doing, Changes}
use Rattle.run_world.proofs.Adds.{Adds, then_at}

-- what a state adds to doesn't look at the answers
pub adds_given : (a : List Answer) (s t : State) → Grows (given a s) t → Grows s t
adds_given a s t g = record { asked = g.asked; order = g.order; pieces = g.pieces; session = g.session }

module _ {W : Type 0} {reached : W → Origin → W → State → Type 0} {replies : W → List Answer} where
  -- memory ran out before anything was done
  pub short_doing : {A B : Type 0} {view : A → B} {part : Place → State → Went B} (w : W) → ((place : Place) → Adds (part place)) → Doing reached replies view part w w (Err failure.NoMemory)
  short_doing {part = part} w adds = record {
    by = λ first origin s stands. record {
      got = [];
      replies = sym (append-nil (replies w));
      after = s;
      stood = stands;
      went = λ place future. adds_given future s (state_of (part place (given future s))) (adds place (given future s));
    };
  }

  -- nothing is done but to give a result
  pub well_doing : {A B : Type 0} {view : A → B} (w : W) (a : A) → Doing reached replies view (λ place. Well (view a)) w w (Ok a)
  well_doing w a = record { by = λ first origin s stands. record { got = []; replies = sym (append-nil (replies w)); after = s; stood = stands; went = λ place future. refl } }

  -- a table's answer
  pub result_doing : {A B : Type 0} {view : A → B} (w : W) (expected : Result B RunFault) (result : Result A (Failure RunFault)) → AnswersAs view expected result
      → Doing reached replies view (λ place. result_of place expected) w w result
  result_doing {A} {B} {view} w expected result answers = record {
    by = λ first origin s stands. record {
      got = [];
      replies = sym (append-nil (replies w));
      after = s;
      stood = stands;
      went = λ place. goes place s result answers;
    };
  }
    where
      goes : (place : Place) (s : State) (result : Result A (Failure RunFault)) → AnswersAs view expected result → WentSo view place (λ future. result_of place expected (given future s)) s result
      goes place s (Ok a) e = λ future. ap (λ r. result_of place r (given future s)) e
      goes place s (Err (failure.Fault f)) e = λ future. ap (λ r. result_of place r (given future s)) e
      goes place s (Err failure.NoMemory) e = λ future. adds_given future s _ (Rattle.run_world.proofs.Adds.result place expected (given future s))

  -- a part that goes as another where the world stands
  pub as_doing : {A B : Type 0} {view : A → B} {part other : Place → State → Went B} (old new : W) (result : Result A (Failure RunFault))
      → ((first : W) (origin : Origin) (s : State) → reached first origin old s → (place : Place) (a : List Answer) → part place (given a s) ≡ other place (given a s))
      → Doing reached replies view other old new result → Doing reached replies view part old new result
  as_doing {A} {B} {view} {part} {other} old new result e does = record {
    by = λ first origin s stands.
        let d = does.by first origin s stands in
        record { got = d.got; replies = d.replies; after = d.after; stood = d.stood; went = λ place. goes place s (e first origin s stands place) d.got d.after result (d.went place) };
  }
    where
      goes : (place : Place) (s : State) → ((a : List Answer) → part place (given a s) ≡ other place (given a s)) → (got : List Answer) (after : State) (result : Result A (Failure RunFault))
          → WentSo view place (λ future. other place (given (got ++ future) s)) after result → WentSo view place (λ future. part place (given (got ++ future) s)) after result
      goes place s is got after (Ok a) h = λ future. is (got ++ future) ∙ h future
      goes place s is got after (Err (failure.Fault f)) h = λ future. is (got ++ future) ∙ h future
      goes place s is got after (Err failure.NoMemory) h = λ future. subst (λ w. Grows after (state_of w)) (sym (is (got ++ future))) (h future)

  -- a change of the state
  pub changed_doing : (change : State → State) (old new : W) → ((a : List Answer) (s : State) → change (given a s) ≡ given a (change s)) → Changes reached change old new → replies new ≡ replies old
      → {A B : Type 0} {view : A → B} (a : A) → Doing reached replies view (λ place s. Well (view a) (change s)) old new (Ok a)
  changed_doing change old new blind changes e {view = view} a = record {
    by = λ first origin s stands. record {
      got = [];
      replies = e ∙ sym (append-nil (replies old));
      after = change s;
      stood = changes.by first origin s stands;
      went = λ place future. ap (Well (view a)) (blind future s);
    };
  }

  -- one part after another
  pub then_doing : {A B C D : Type 0} {view : A → B} {other : C → D} {part : Place → State → Went B} (go : Place → B → State → Went D) (old mid new : W) (a : A) (result : Result C (Failure RunFault))
      → Doing reached replies view part old mid (Ok a) → Doing reached replies other (λ place. go place (view a)) mid new result
      → Doing reached replies other (λ place s. then_do (part place s) (go place)) old new result
  then_doing {A} {B} {C} {D} {view} {other} {part} go old mid new a result one two = record {
    by = λ first origin s stands.
        let d = one.by first origin s stands in
        let e = two.by first origin d.after d.stood in
        record {
          got = d.got ++ e.got;
          replies = e.replies ∙ ap (λ x. x ++ e.got) d.replies ∙ append_assoc (replies old) d.got e.got;
          after = e.after;
          stood = e.stood;
          went = λ place. goes place s d.got e.got d.after e.after result (d.went place) (e.went place);
        };
  }
    where
      leads : (place : Place) (s : State) (got more : List Answer) (t : State) → ((future : List Answer) → part place (given (got ++ future) s) ≡ Well (view a) (given future t)) → (future : List Answer)
          → then_do (part place (given ((got ++ more) ++ future) s)) (go place) ≡ go place (view a) (given (more ++ future) t)
      leads place s got more t h future = ap (λ x. then_do (part place (given x s)) (go place)) (append_assoc got more future) ∙ ap (λ w. then_do w (go place)) (h (more ++ future))

      goes : (place : Place) (s : State) (got more : List Answer) (t after : State) (result : Result C (Failure RunFault))
          → ((future : List Answer) → part place (given (got ++ future) s) ≡ Well (view a) (given future t))
          → WentSo other place (λ future. go place (view a) (given (more ++ future) t)) after result
          → WentSo other place (λ future. then_do (part place (given ((got ++ more) ++ future) s)) (go place)) after result
      goes place s got more t after (Ok c) h k = λ future. leads place s got more t h future ∙ k future
      goes place s got more t after (Err (failure.Fault f)) h k = λ future. leads place s got more t h future ∙ k future
      goes place s got more t after (Err failure.NoMemory) h k = λ future. subst (λ w. Grows after (state_of w)) (sym (leads place s got more t h future)) (k future)

  -- a part that wasn't done well is all that is done
  pub fail_doing : {A B C D : Type 0} {view : A → B} {other : C → D} {part : Place → State → Went B} (go : Place → B → State → Went D) (old new : W) (e : Failure RunFault)
      → ((place : Place) (b : B) → Adds (go place b)) → Doing reached replies view part old new (Err e) → Doing reached replies other (λ place s. then_do (part place s) (go place)) old new (Err e)
  fail_doing {A} {B} {C} {D} {view} {other} {part} go old new e adds does = record {
    by = λ first origin s stands.
        let d = does.by first origin s stands in
        record { got = d.got; replies = d.replies; after = d.after; stood = d.stood; went = λ place. goes place s d.got d.after e (d.went place) };
  }
    where
      goes : (place : Place) (s : State) (got : List Answer) (after : State) (e : Failure RunFault) → WentSo view place (λ future. part place (given (got ++ future) s)) after (Err e)
          → WentSo other place (λ future. then_do (part place (given (got ++ future) s)) (go place)) after (Err e)
      goes place s got after (failure.Fault f) h = λ future. ap (λ w. then_do w (go place)) (h future)
      goes place s got after failure.NoMemory h = λ future. then_at after (part place (given (got ++ future) s)) (go place) (h future) (adds place)

  -- the exits of a `?`
  pub short_at : {A B : Type 0} {view : A → B} {part : Place → State → Went B} (w : W) (result : Result A (Failure RunFault)) → IsErrAnd result (λ e. e ≡ failure.NoMemory)
      → ((place : Place) → Adds (part place)) → Doing reached replies view part w w result
  short_at w (Ok a) is adds = absurd is
  short_at {view = view} {part = part} w (Err e) is adds = subst (λ e. Doing reached replies view part w w (Err e)) (sym is) (short_doing w adds)

  pub fail_at : {A B C D : Type 0} {view : A → B} {other : C → D} {part : Place → State → Went B} (go : Place → B → State → Went D) (old new : W) (e : Failure RunFault) (result : Result C (Failure RunFault))
      → IsErrAnd result (λ f. f ≡ e) → ((place : Place) (b : B) → Adds (go place b)) → Doing reached replies view part old new (Err e)
      → Doing reached replies other (λ place s. then_do (part place s) (go place)) old new result
  fail_at go old new e (Ok c) is adds does = absurd is
  fail_at {other = other} {part = part} go old new e (Err f) is adds does =
      subst (λ f. Doing reached replies other (λ place s. then_do (part place s) (go place)) old new (Err f)) (sym is) (fail_doing go old new e adds does)
