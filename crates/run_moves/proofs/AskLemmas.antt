-- What is asked before a page is left, and a bean that is made.
use Rattle.std.proofs.Common.{◌≡◌, ◌≤◌, ◌-◌, arith, get_or, length, ℕ, Bool, true, false, List, [], ◌∷◌, Option, Some, None, Ok, Err, refl, sym, ap, ◌∙◌, subst}
use Rattle.std.proofs.Math.Seq.{take-length}
use Rattle.std.specs.List.{list_any}
use Rattle.out_buffer.specs.Writer.{has_committed}
use Rattle.run_world.proofs.Adds.{ask_adds, eithers, raised, set_held_adds, thens, well}
use Rattle.run_world.proofs.Parts.{as_doing, fail_doing, result_doing, then_doing, well_doing}
use Rattle.run_world.specs.Origin.{Origin}
use Rattle.run_world.specs.Part.{given, Doing}
use Rattle.run_moves.specs.Leaving.{redirect_asked}
use Rattle.page_meaning.specs.Addresses.{is_control}
use Rattle.page_meaning.specs.Growth.{state_of, Grows}
use Rattle.page_meaning.specs.State.{State}
use Rattle.page_meaning.specs.Variables.{set_held}
use Rattle.page_meaning.specs.Went.{Went, Well, Raised, then_do, either}
use Rattle.page_meaning.specs.Work.{ask}
use Rattle.page_table.specs.Act.{bean_made}
use Rattle.pg_text.specs.declared.failure.Failure.{Failure}
use Rattle.pg_text.specs.declared.failure.Failure.TheVariants as failure
use Rattle.pg_text.specs.declared.place.Place.{Place}
use Rattle.pg_value.specs.Datum.{Datum}
use Rattle.pg_value.specs.Value.{datum_of, value_of}
use Rattle.pg_value.specs.declared.fault.RunFault.{RunFault}
use Rattle.pg_value.specs.declared.fault.RunFault.TheVariants as fault
use Rattle.pg_value.specs.declared.value.Value.{Value}
use Rattle.pg_value.proofs.Inverses.{value_of-datum_of}
use Rattle.std.specs.Prelude.{drop, is_some, map, option_map, take}
use Rattle.page_meaning.specs.Attributes.{text_in}
use Rattle.page_table.specs.Operations.{behind_first, text_at}
use Rattle.scopes.specs.Scopes.{ScopeState, found_in}
use Rattle.scopes.specs.declared.held_scope.HeldScope.{HeldScope}
use Rattle.site_words.specs.Law.{Answer, told}
use Rattle.site_words.specs.PageSteps.{tells_created}
use Rattle.site_words.specs.declared.words.AppReply.{AppReply}
use Rattle.site_words.specs.declared.words.AppStep.TheVariants as step

-- the first of some values, as a text
pub first_text : (values : List Value) (v : Value) → 1 ≤ length values → v ≡ get_or values 0 v → text_in (Some (datum_of v)) ≡ text_at 0 (map datum_of values)
first_text [] v h e = absurd (omega (arith, h))
first_text (first ∷ rest) v h e = ap (λ x. text_in (Some (datum_of x))) e

-- those behind it
pub rest_seen : (values : List Value) → map datum_of (take (length values - 1) (drop 1 values)) ≡ behind_first (map datum_of values)
rest_seen [] = refl
rest_seen (first ∷ rest) =
    let e : length (first ∷ rest) - 1 ≡ length rest = omega arith in
    ap (λ n. map datum_of (take n rest)) e ∙ ap (map datum_of) (take-length rest)

pub is_some_map : {A B : Type 0} (f : A → B) (o : Option A) → is_some (option_map f o) ≡ is_some o
is_some_map f None = refl
is_some_map f (Some a) = refl

pub redirect_adds : (place : Place) (url : List ℕ) (s : State) → Grows s (state_of (redirect_asked place url s))
redirect_adds place url s =
    let good : State → Went (List ℕ) = Well url in
    eithers (has_committed s.writer) (Raised fault.Committed place) (either (list_any is_control url) (Raised fault.BadUrl place) good) (raised (List ℕ) fault.Committed place)
    (λ t. eithers (list_any is_control url) (Raised fault.BadUrl place) good (raised (List ℕ) fault.BadUrl place) (well url) t) s

pub bean_adds : (place : Place) (o : Option HeldScope) (name : List ℕ) (bean : Datum) (s : State) → Grows s (state_of (bean_made place o name bean s))
bean_adds place None name bean s = thens (ask place (step.Ensure name (value_of bean))) (λ answer s1. Well (tells_created answer) s1) (ask_adds place (step.Ensure name (value_of bean))) (λ answer. well (tells_created answer)) s
bean_adds place (Some scope) name bean s =
    eithers (is_some (found_in s.scopes scope name)) (Well false) (λ s1. then_do (set_held place scope name bean s1) (λ u s2. Well true s2)) (well false)
    (λ t. thens (set_held place scope name bean) (λ u s2. Well true s2) (set_held_adds place scope name bean) (λ u. well true) t) s

module _ {W : Type 0} {reached : W → Origin → W → State → Type 0} {replies : W → List Answer} where
  module _ (committed : W → Bool) (tells : (first w : W) (origin : Origin) (s : State) → reached first origin w s → committed w ≡ has_committed s.writer) where
    pub redirect_committed : (w : W) (url : List ℕ) → committed w ≡ true → Doing reached replies (λ (t : List ℕ). t) (λ place. redirect_asked place url) w w (Err (failure.Fault fault.Committed))
    redirect_committed w url e = as_doing w w (Err (failure.Fault fault.Committed))
        (λ first origin s h place a. ap (λ b. either b (Raised fault.Committed place) (either (list_any is_control url) (Raised fault.BadUrl place) (Well url)) (given a s)) (sym (tells first w origin s h) ∙ e))
        (result_doing w (Err fault.Committed) (Err (failure.Fault fault.Committed)) refl)

    pub redirect_control : (w : W) (url : List ℕ) → committed w ≡ false → list_any is_control url ≡ true → Doing reached replies (λ (t : List ℕ). t) (λ place. redirect_asked place url) w w (Err (failure.Fault fault.BadUrl))
    redirect_control w url e bad = as_doing w w (Err (failure.Fault fault.BadUrl))
        (λ first origin s h place a. ap (λ b. either b (Raised fault.Committed place) (either (list_any is_control url) (Raised fault.BadUrl place) (Well url)) (given a s)) (sym (tells first w origin s h) ∙ e)
        ∙ ap (λ b. either b (Raised fault.BadUrl place) (Well url) (given a s)) bad)
        (result_doing w (Err fault.BadUrl) (Err (failure.Fault fault.BadUrl)) refl)

    pub redirect_well : (w : W) (url t : List ℕ) → t ≡ url → committed w ≡ false → list_any is_control url ≡ false → Doing reached replies (λ (t : List ℕ). t) (λ place. redirect_asked place url) w w (Ok t)
    redirect_well w url t copied e good = as_doing w w (Ok t)
        (λ first origin s h place a. ap (λ b. either b (Raised fault.Committed place) (either (list_any is_control url) (Raised fault.BadUrl place) (Well url)) (given a s)) (sym (tells first w origin s h) ∙ e)
        ∙ ap (λ b. either b (Raised fault.BadUrl place) (Well url) (given a s)) good
        ∙ ap (λ (u : List ℕ). let w : Went (List ℕ) = Well u (given a s) in w) (sym copied))
        (well_doing w t)

  -- a bean in application scope
  pub bean_unasked : (old new : W) (o : Option HeldScope) (name : List ℕ) (v : Value) (f : Failure RunFault) → o ≡ None
      → Doing reached replies told (λ place. ask place (step.Ensure name v)) old new (Err f) → Doing reached replies (λ (b : Bool). b) (λ place. bean_made place o name (datum_of v)) old new (Err f)
  bean_unasked old new o name v f e does = as_doing old new (Err f)
      (λ first origin s h place a. ap (λ o. bean_made place o name (datum_of v) (given a s)) e
      ∙ ap (λ v. then_do (ask place (step.Ensure name v) (given a s)) (λ answer s1. Well (tells_created answer) s1)) (value_of-datum_of v))
      (fail_doing (λ place answer s1. Well (tells_created answer) s1) old new f (λ place answer. well (tells_created answer)) does)

  pub bean_asked : (old new : W) (o : Option HeldScope) (name : List ℕ) (v : Value) (reply : AppReply) (made : Bool) → o ≡ None → made ≡ tells_created (told reply)
      → Doing reached replies told (λ place. ask place (step.Ensure name v)) old new (Ok reply) → Doing reached replies (λ (b : Bool). b) (λ place. bean_made place o name (datum_of v)) old new (Ok made)
  bean_asked old new o name v reply made e is does = as_doing old new (Ok made)
      (λ first origin s h place a. ap (λ o. bean_made place o name (datum_of v) (given a s)) e
      ∙ ap (λ v. then_do (ask place (step.Ensure name v) (given a s)) (λ answer s1. Well (tells_created answer) s1)) (value_of-datum_of v))
      (then_doing (λ place answer s1. Well (tells_created answer) s1) old new new reply (Ok made) does
      (subst (λ b. Doing reached replies (λ (x : Bool). x) (λ place. Well b) new new (Ok made)) is (well_doing new made)))

  module _ (variables : W → ScopeState) (tells : (first w : W) (origin : Origin) (s : State) → reached first origin w s → variables w ≡ s.scopes) where
    pub bean_there : (w : W) (o : Option HeldScope) (scope : HeldScope) (name : List ℕ) (d : Datum) → o ≡ Some scope → is_some (found_in (variables w) scope name) ≡ true
        → Doing reached replies (λ (b : Bool). b) (λ place. bean_made place o name d) w w (Ok false)
    bean_there w o scope name d e there = as_doing w w (Ok false)
        (λ first origin s h place a. ap (λ o. bean_made place o name d (given a s)) e
        ∙ ap (λ b. either b (Well false) (λ s1. then_do (set_held place scope name d s1) (λ u s2. Well true s2)) (given a s)) (ap (λ v. is_some (found_in v scope name)) (sym (tells first w origin s h)) ∙ there))
        (well_doing w false)

    pub bean_unset : (old new : W) (o : Option HeldScope) (scope : HeldScope) (name : List ℕ) (d : Datum) (f : Failure RunFault) → o ≡ Some scope → is_some (found_in (variables old) scope name) ≡ false
        → Doing reached replies (λ (u : Unit). u) (λ place. set_held place scope name d) old new (Err f) → Doing reached replies (λ (b : Bool). b) (λ place. bean_made place o name d) old new (Err f)
    bean_unset old new o scope name d f e gone does = as_doing old new (Err f)
        (λ first origin s h place a. ap (λ o. bean_made place o name d (given a s)) e
        ∙ ap (λ b. either b (Well false) (λ s1. then_do (set_held place scope name d s1) (λ u s2. Well true s2)) (given a s)) (ap (λ v. is_some (found_in v scope name)) (sym (tells first old origin s h)) ∙ gone))
        (fail_doing (λ place u s1. Well true s1) old new f (λ place u. well true) does)

    pub bean_set : (old new : W) (o : Option HeldScope) (scope : HeldScope) (name : List ℕ) (d : Datum) (u : Unit) → o ≡ Some scope → is_some (found_in (variables old) scope name) ≡ false
        → Doing reached replies (λ (u : Unit). u) (λ place. set_held place scope name d) old new (Ok u) → Doing reached replies (λ (b : Bool). b) (λ place. bean_made place o name d) old new (Ok true)
    bean_set old new o scope name d u e gone does = as_doing old new (Ok true)
        (λ first origin s h place a. ap (λ o. bean_made place o name d (given a s)) e
        ∙ ap (λ b. either b (Well false) (λ s1. then_do (set_held place scope name d s1) (λ u s2. Well true s2)) (given a s)) (ap (λ v. is_some (found_in v scope name)) (sym (tells first old origin s h)) ∙ gone))
        (then_doing (λ place u s1. Well true s1) old new new u (Ok true) does (well_doing new true))
