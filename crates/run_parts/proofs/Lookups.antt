-- Variables are found, set and removed as the meaning says.
use Rattle.std.proofs.Common.{◌≡◌, ℕ, Bool, true, false, List, Some, None, Result, Ok, Err, refl, sym, ap, ◌∙◌, subst}
use Rattle.run_world.specs.Origin.{Origin}
use Rattle.run_world.specs.Part.{given, Doing, Changes}
use Rattle.run_parts.specs.Answers.{nowhere_answer}
use Rattle.page_meaning.proofs.Growing.{same}
use Rattle.run_world.proofs.Adds.{found_nowhere_adds}
use Rattle.run_world.proofs.Parts.{as_doing, changed_doing, fail_doing, result_doing, then_doing, well_doing}
use Rattle.page_meaning.specs.Expressions.{found_nowhere, variable_or_step}
use Rattle.page_meaning.specs.State.{State, in_scopes}
use Rattle.site_words.specs.PageSteps.{told_value, value_in}
use Rattle.page_meaning.specs.Variables.{set_held, set_application, set_in, assign, remove_in, unassign, unassign_all, without_inner, inner_found, look_up_else, look_up}
use Rattle.page_meaning.specs.Went.{Went, Well, Raised, then_do, either, result_of}
use Rattle.page_meaning.specs.Work.{ask}
use Rattle.pg_text.specs.Failure.{AnswersAs}
use Rattle.pg_text.specs.declared.failure.Failure.{Failure}
use Rattle.pg_text.specs.declared.failure.Failure.TheVariants as failure
use Rattle.pg_text.specs.declared.place.Place.{Place}
use Rattle.pg_value.specs.Datum.{Datum, null, truth, number, text, list, rec}
use Rattle.pg_value.specs.Limits.{is_over}
use Rattle.pg_value.specs.Value.{datum_of, value_of}
use Rattle.pg_value.specs.declared.fault.RunFault.{RunFault}
use Rattle.pg_value.specs.declared.fault.RunFault.TheVariants as fault
use Rattle.pg_value.specs.declared.scope.Scope.{Scope}
use Rattle.pg_value.specs.declared.scope.Scope.TheVariants as scope
use Rattle.pg_value.specs.declared.value.Value.{Value}
use Rattle.pg_value.proofs.Inverses.{value_of-datum_of}
use Rattle.scopes.specs.HeldScope.{held_scope}
use Rattle.scopes.specs.Scopes.{ScopeState, found, without_variable}
use Rattle.scopes.specs.declared.held_scope.HeldScope.{HeldScope}
use Rattle.scopes.specs.declared.held_scope.HeldScope.TheVariants as held
use Rattle.site_words.specs.Law.{Answer, told}
use Rattle.site_words.specs.declared.words.AppReply.{AppReply}
use Rattle.site_words.specs.declared.words.AppStep.TheVariants as step

-- a scope with a value, as data
abbrev pub seen : Scope × Value → Scope × Datum
seen p = (p.0, datum_of p.1)

-- null where a name is found nowhere, or X6
nowhere_is : (strict : Bool) (place : Place) (d : Datum) (s : State) → found_nowhere strict place d s ≡ result_of place (nowhere_answer strict d) s
nowhere_is true place null s = refl
nowhere_is true place (truth b) s = refl
nowhere_is true place (number n) s = refl
nowhere_is true place (text t) s = refl
nowhere_is true place (list is) s = refl
nowhere_is true place (rec es) s = refl
nowhere_is false place null s = refl
nowhere_is false place (truth b) s = refl
nowhere_is false place (number n) s = refl
nowhere_is false place (text t) s = refl
nowhere_is false place (list is) s = refl
nowhere_is false place (rec es) s = refl

-- a name in an expression
abbrev pub Finding : Bool → List ℕ → Place → State → Went Datum
Finding strict name place s = variable_or_step strict place name (found s.scopes name) s

module _ {W : Type 0} {reached : W → Origin → W → State → Type 0} {replies : W → List Answer} where
  module _ (variables : W → ScopeState) (tells : (first w : W) (origin : Origin) (s : State) → reached first origin w s → variables w ≡ s.scopes) where
    -- a variable that stands in page, request or session scope
    pub look_up_found : (w : W) (name : List ℕ) (p : Scope × Value) → inner_found (variables w) name ≡ Some (seen p) → Doing reached replies seen (λ place. look_up place name) w w (Ok p)
    look_up_found w name p e = as_doing w w (Ok p)
        (λ first origin s h place a.
        ap (λ scopes. look_up_else place name (inner_found scopes name) (given a s)) (sym (tells first w origin s h)) ∙ ap (λ o. look_up_else place name o (given a s)) e)
        (well_doing w p)

    -- one that stands in none is asked for
    pub look_up_asked : (w new : W) (name : List ℕ) (reply : AppReply) (v : Value) → inner_found (variables w) name ≡ None → datum_of v ≡ value_in reply
        → Doing reached replies told (λ place. ask place (step.Get name)) w new (Ok reply) → Doing reached replies seen (λ place. look_up place name) w new (Ok (scope.Application, v))
    look_up_asked w new name reply v none e does = as_doing w new (Ok (scope.Application, v))
        (λ first origin s h place a.
        ap (λ scopes. look_up_else place name (inner_found scopes name) (given a s)) (sym (tells first w origin s h)) ∙ ap (λ o. look_up_else place name o (given a s)) none)
        (then_doing (λ place answer s1. Well (scope.Application, told_value answer) s1) w new new reply (Ok (scope.Application, v)) does
        (subst (λ d. Doing reached replies seen (λ place. Well (scope.Application, d)) new new (Ok (scope.Application, v))) e (well_doing new (scope.Application, v))))

    pub look_up_failed : (w new : W) (name : List ℕ) (f : Failure RunFault) → inner_found (variables w) name ≡ None
        → Doing reached replies told (λ place. ask place (step.Get name)) w new (Err f) → Doing reached replies seen (λ place. look_up place name) w new (Err f)
    look_up_failed w new name f none does = as_doing w new (Err f)
        (λ first origin s h place a.
        ap (λ scopes. look_up_else place name (inner_found scopes name) (given a s)) (sym (tells first w origin s h)) ∙ ap (λ o. look_up_else place name o (given a s)) none)
        (fail_doing (λ place answer s1. Well (scope.Application, told_value answer) s1) w new f (λ place answer s1. same s1) does)

    pub find_found : (w : W) (strict : Bool) (name : List ℕ) (v : Value) → found (variables w) name ≡ Some (datum_of v) → Doing reached replies datum_of (Finding strict name) w w (Ok v)
    find_found w strict name v e = as_doing w w (Ok v)
        (λ first origin s h place a.
        ap (λ scopes. variable_or_step strict place name (found scopes name) (given a s)) (sym (tells first w origin s h)) ∙ ap (λ o. variable_or_step strict place name o (given a s)) e)
        (well_doing w v)

    pub find_asked : (w new : W) (strict : Bool) (name : List ℕ) (reply : AppReply) (v : Value) (result : Result Value (Failure RunFault)) → found (variables w) name ≡ None → datum_of v ≡ value_in reply
        → AnswersAs datum_of (nowhere_answer strict (datum_of v)) result → Doing reached replies told (λ place. ask place (step.Get name)) w new (Ok reply) → Doing reached replies datum_of (Finding strict name) w new result
    find_asked w new strict name reply v result none e answers does = as_doing w new result
        (λ first origin s h place a.
        ap (λ scopes. variable_or_step strict place name (found scopes name) (given a s)) (sym (tells first w origin s h)) ∙ ap (λ o. variable_or_step strict place name o (given a s)) none)
        (then_doing (λ place answer s1. found_nowhere strict place (told_value answer) s1) w new new reply result does
        (as_doing new new result (λ first origin s h place a. nowhere_is strict place (value_in reply) (given a s) ∙ ap (λ d. result_of place (nowhere_answer strict d) (given a s)) (sym e))
        (result_doing new (nowhere_answer strict (datum_of v)) result answers)))

    pub find_failed : (w new : W) (strict : Bool) (name : List ℕ) (f : Failure RunFault) → found (variables w) name ≡ None → Doing reached replies told (λ place. ask place (step.Get name)) w new (Err f)
        → Doing reached replies datum_of (Finding strict name) w new (Err f)
    find_failed w new strict name f none does = as_doing w new (Err f)
        (λ first origin s h place a.
        ap (λ scopes. variable_or_step strict place name (found scopes name) (given a s)) (sym (tells first w origin s h)) ∙ ap (λ o. variable_or_step strict place name o (given a s)) none)
        (fail_doing (λ place answer s1. found_nowhere strict place (told_value answer) s1) w new f (λ place answer. found_nowhere_adds strict place (told_value answer)) does)

  -- a variable of a scope that the run holds, or of application scope
  pub assign_held : (old new : W) (sc : Scope) (h : HeldScope) (name : List ℕ) (d : Datum) (result : Result Unit (Failure RunFault)) → held_scope sc ≡ Some h
      → Doing reached replies (λ u. u) (λ place. set_held place h name d) old new result → Doing reached replies (λ u. u) (λ place. assign place sc name d) old new result
  assign_held old new sc h name d result e does = as_doing old new result (λ first origin s stands place a. ap (λ held. set_in place held name d (given a s)) e) does

  pub assign_asked : (old new : W) (sc : Scope) (name : List ℕ) (d : Datum) (result : Result Unit (Failure RunFault)) → held_scope sc ≡ None
      → Doing reached replies (λ u. u) (λ place. set_application place name d) old new result → Doing reached replies (λ u. u) (λ place. assign place sc name d) old new result
  assign_asked old new sc name d result e does = as_doing old new result (λ first origin s stands place a. ap (λ held. set_in place held name d (given a s)) e) does

  -- a value that is too large for application scope
  pub application_over : (w : W) (name : List ℕ) (d : Datum) → is_over d ≡ true → Doing reached replies (λ u. u) (λ place. set_application place name d) w w (Err (failure.Fault fault.ValueTooLarge))
  application_over w name d over = as_doing w w (Err (failure.Fault fault.ValueTooLarge))
      (λ first origin s h place a. ap (λ b. either b (Raised fault.ValueTooLarge place) (λ s1. then_do (ask place (step.Set name (value_of d)) s1) (λ answer s2. Well tt s2)) (given a s)) over)
      (result_doing w (Err fault.ValueTooLarge) (Err (failure.Fault fault.ValueTooLarge)) refl)

  pub application_set : (old new : W) (name : List ℕ) (v : Value) (reply : AppReply) → is_over (datum_of v) ≡ false
      → Doing reached replies told (λ place. ask place (step.Set name v)) old new (Ok reply) → Doing reached replies (λ u. u) (λ place. set_application place name (datum_of v)) old new (Ok tt)
  application_set old new name v reply within does = as_doing old new (Ok tt)
      (λ first origin s h place a.
      ap (λ b. either b (Raised fault.ValueTooLarge place) (λ s1. then_do (ask place (step.Set name (value_of (datum_of v))) s1) (λ answer s2. Well tt s2)) (given a s)) within
      ∙ ap (λ x. then_do (ask place (step.Set name x) (given a s)) (λ answer s2. Well tt s2)) (value_of-datum_of v))
      (then_doing (λ place answer s1. Well tt s1) old new new reply (Ok tt) does (well_doing new tt))

  pub application_failed : (old new : W) (name : List ℕ) (v : Value) (f : Failure RunFault) → is_over (datum_of v) ≡ false
      → Doing reached replies told (λ place. ask place (step.Set name v)) old new (Err f) → Doing reached replies (λ u. u) (λ place. set_application place name (datum_of v)) old new (Err f)
  application_failed old new name v f within does = as_doing old new (Err f)
      (λ first origin s h place a.
      ap (λ b. either b (Raised fault.ValueTooLarge place) (λ s1. then_do (ask place (step.Set name (value_of (datum_of v))) s1) (λ answer s2. Well tt s2)) (given a s)) within
      ∙ ap (λ x. then_do (ask place (step.Set name x) (given a s)) (λ answer s2. Well tt s2)) (value_of-datum_of v))
      (fail_doing (λ place answer s1. Well tt s1) old new f (λ place answer s1. same s1) does)

  -- a variable that goes
  pub unassign_held : (old new : W) (sc : Scope) (h : HeldScope) (name : List ℕ) → held_scope sc ≡ Some h → Changes reached (λ s. in_scopes (without_variable s.scopes h name) s) old new
      → replies new ≡ replies old → Doing reached replies (λ u. u) (λ place. unassign place sc name) old new (Ok tt)
  unassign_held old new sc h name e changes same = as_doing old new (Ok tt) (λ first origin s stands place a. ap (λ held. remove_in place held name (given a s)) e)
      (changed_doing (λ s. in_scopes (without_variable s.scopes h name) s) old new (λ a s. refl) changes same tt)

  pub unassign_asked : (old new : W) (sc : Scope) (name : List ℕ) (reply : AppReply) → held_scope sc ≡ None → Doing reached replies told (λ place. ask place (step.Remove name)) old new (Ok reply)
      → Doing reached replies (λ u. u) (λ place. unassign place sc name) old new (Ok tt)
  unassign_asked old new sc name reply e does = as_doing old new (Ok tt) (λ first origin s stands place a. ap (λ held. remove_in place held name (given a s)) e)
      (then_doing (λ place answer s1. Well tt s1) old new new reply (Ok tt) does (well_doing new tt))

  pub unassign_failed : (old new : W) (sc : Scope) (name : List ℕ) (f : Failure RunFault) → held_scope sc ≡ None → Doing reached replies told (λ place. ask place (step.Remove name)) old new (Err f)
      → Doing reached replies (λ u. u) (λ place. unassign place sc name) old new (Err f)
  unassign_failed old new sc name f e does = as_doing old new (Err f) (λ first origin s stands place a. ap (λ held. remove_in place held name (given a s)) e)
      (fail_doing (λ place answer s1. Well tt s1) old new f (λ place answer s1. same s1) does)

  -- a variable that goes from all scopes
  pub all_removed : (old one two three new : W) (name : List ℕ) (result : Result Unit (Failure RunFault)) → Changes reached (λ s. in_scopes (without_variable s.scopes held.Page name) s) old one → replies one ≡ replies old
      → Changes reached (λ s. in_scopes (without_variable s.scopes held.Request name) s) one two → replies two ≡ replies one
      → Changes reached (λ s. in_scopes (without_variable s.scopes held.Session name) s) two three → replies three ≡ replies two
      → Doing reached replies (λ (u : Unit {0}). u) (λ place. unassign place scope.Application name) three new result → Doing reached replies (λ (u : Unit {0}). u) (λ place. unassign_all place name) old new result
  all_removed old one two three new name result a ka b kb c kc does =
      then_doing {view = λ (u : Unit {0}). u} (λ place u. unassign place scope.Application name) old three new tt result
      (changed_doing (λ s. in_scopes (without_inner name s.scopes) s) old three (λ answers s. refl)
      (record {
        by = λ first origin s stands.
            c.by first origin _ (b.by first origin (in_scopes (without_variable s.scopes held.Page name) s) (a.by first origin s stands));
      }) (kc ∙ (kb ∙ ka)) tt)
      does
