-- What the calls of the lent variables do, of the state for which a stage stands and of a session's weight.
use Rattle.std.proofs.Common.{◌≡◌, ◌≤◌, ℕ, Bool, true, false, List, [], ◌∷◌, length, take, Option, Some, None, Result, Ok, Err, refl, sym, ap, ◌∙◌, subst, append-nil, arith}
use Rattle.std.specs.Prelude.{⊤, cond, is_some, not, option_map, OnErr, OnOk}
use Rattle.std.specs.Str.{bytes_eq}
use Rattle.page_meaning.specs.State.{in_scopes}
use Rattle.page_meaning.specs.Variables.{set_held}
use Rattle.page_meaning.specs.Went.{Did, Well, result_of, then_do}
use Rattle.pg_text.specs.Failure.{Answers}
use Rattle.pg_text.specs.declared.failure.Failure.{Failure}
use Rattle.pg_text.specs.declared.failure.Failure.TheVariants as failure
use Rattle.pg_value.specs.Attrs.{without_entry}
use Rattle.pg_value.specs.Datum.{Datum, entries_of}
use Rattle.pg_value.specs.Weight.{entries_weight}
use Rattle.pg_value.specs.declared.fault.RunFault.{RunFault}
use Rattle.run_stage.proofs.StageMoves.{scoped_stage, stage_scoped}
use Rattle.run_stage.specs.Stage.{Covered, Reached}
use Rattle.run_stage.specs.Keeping.{session_weight}
use Rattle.run_stage.specs.declared.stage.Stage.{Stage}
use Rattle.run_world.proofs.Adds.{set_held_adds}
use Rattle.run_world.proofs.Parts.{adds_given}
use Rattle.run_world.specs.Part.{Doing, given}
use Rattle.scopes.specs.Limits.{max_session_weight}
use Rattle.scopes.specs.Scopes.{Entries, ScopeState, set_answer, with_variable, without_variable}
use Rattle.scopes.specs.declared.held_scope.HeldScope.{HeldScope}
use Rattle.scopes.specs.declared.held_scope.HeldScope.TheVariants as held
use Rattle.site_words.specs.Law.{Answer}
use Rattle.site_words.specs.Running.{Asking}
use Rattle.source_tree.specs.declared.file.File.{File}

-- a session is there as before where a variable was removed
pub remove_there : (s : ScopeState) (sc : HeldScope) (name : List ℕ) → is_some (without_variable s sc name).session ≡ is_some s.session
remove_there s held.Page name = refl
remove_there s held.Request name = refl
remove_there s held.Session name = there s.session
  where
    there : (o : Option Entries) → is_some (option_map (λ attributes. without_entry attributes name) o) ≡ is_some o
    there None = refl
    there (Some attributes) = refl

-- what is left of entries weighs no more
lighter : (name : List ℕ) (entries : Entries) → entries_weight (entries_of (without_entry entries name)) ≤ entries_weight (entries_of entries)
lighter name [] = omega arith
lighter name (e ∷ entries) = go (bytes_eq name e.0) (lighter name entries)
  where
    go : (b : Bool) → entries_weight (entries_of (without_entry entries name)) ≤ entries_weight (entries_of entries)
        → entries_weight (entries_of (cond (not b) (e ∷ without_entry entries name) (without_entry entries name))) ≤ entries_weight (entries_of (e ∷ entries))
    go true h = omega arith
    go false h = omega arith

pub remove_light : (s : ScopeState) (sc : HeldScope) (name : List ℕ) → session_weight s.session ≤ max_session_weight → session_weight (without_variable s sc name).session ≤ max_session_weight
remove_light s held.Page name light = light
remove_light s held.Request name light = light
remove_light s held.Session name light = go s.session light
  where
    go : (o : Option Entries) → session_weight o ≤ max_session_weight → session_weight (option_map (λ attributes. without_entry attributes name) o) ≤ max_session_weight
    go None h = omega arith
    go (Some attributes) h = let l = lighter name attributes in omega arith

-- what is covered stays so with a session of the same kind
pub covered_scopes : (old new : Option Entries) (id : Option (List ℕ)) (visited charged : ℕ) (asking : Asking) → Covered old id visited charged asking → is_some new ≡ is_some old → session_weight new ≤ max_session_weight → Covered new id visited charged asking
covered_scopes old new id visited charged asking c there light = record {
  session = there ∙ c.session;
  asked = c.asked;
  weight = light;
  visits = c.visits;
  charge = c.charge;
  promise = c.promise;
  before = c.before;
}

-- what is covered stays so with the same session
pub covered_same : (old new : Option Entries) (id : Option (List ℕ)) (visited charged : ℕ) (asking : Asking) → Covered old id visited charged asking → new ≡ old → Covered new id visited charged asking
covered_same old new id visited charged asking c e = subst (λ s. Covered s id visited charged asking) (sym e) c

-- the variables with so many frames alone
pub cut_is : (s before : ScopeState) (n : ℕ) → s.frames ≡ take (length s.frames) before.frames → s.request ≡ before.request → s.session ≡ before.session → length s.frames ≡ n
    → s ≡ record { frames = take n before.frames; current = s.current; request = before.request; session = before.session }
cut_is s before n front request session long =
    let state : List Entries → Entries → Option Entries → ScopeState = λ frames r o. record { frames = frames; current = s.current; request = r; session = o } in
    ap (λ f. state f s.request s.session) (front ∙ ap (λ k. take k before.frames) long)
    ∙ ap (λ r. state (take n before.frames) r s.session) request
    ∙ ap (λ o. state (take n before.frames) before.request o) session

module _ {P K : Type 0} {taken : K → Option (List ℕ)} {faults : K → ℕ} {leads : P → P → Type 0} {asking : P → Asking} {tree : P → List File} where
  -- a variable that is set
  pub set_doing : {replies : Stage P K → List Answer} (w : Stage P K) (scopes : ScopeState) (sc : HeldScope) (name : List ℕ) (d : Datum) (result : Result ⊤ (Failure RunFault))
      → Answers (set_answer w.scopes.now sc name d) result → OnOk result (scopes ≡ with_variable w.scopes.now sc name d) → OnErr result (scopes ≡ w.scopes.now) → replies (scoped_stage w scopes) ≡ replies w
      → Doing (Reached taken faults leads asking tree) replies (λ u. u) (λ place. set_held place sc name d) w (scoped_stage w scopes) result
  set_doing {replies} w scopes sc name d (Ok u) answers ok err same = record {
    by = λ first origin s r. record {
      got = [];
      replies = same ∙ sym (append-nil (replies w));
      after = in_scopes (with_variable s.scopes sc name d) s;
      stood = subst (λ x. Reached taken faults leads asking tree first origin (scoped_stage w scopes) (in_scopes x s)) (ok ∙ ap (λ x. with_variable x sc name d) (sym r.scopes)) (stage_scoped first w origin s scopes r);
      went = λ place future.
          ap (λ x. then_do (result_of place x (given future s)) (λ u s1. let w : Did = Well tt (in_scopes (with_variable s1.scopes sc name d) s1) in w)) (ap (λ x. set_answer x sc name d) r.scopes ∙ answers);
    };
  }
  set_doing {replies} w scopes sc name d (Err (failure.Fault f)) answers ok err same = record {
    by = λ first origin s r. record {
      got = [];
      replies = same ∙ sym (append-nil (replies w));
      after = s;
      stood = subst (λ x. Reached taken faults leads asking tree first origin (scoped_stage w x) s) (sym err) r;
      went = λ place future.
          ap (λ x. then_do (result_of place x (given future s)) (λ u s1. let w : Did = Well tt (in_scopes (with_variable s1.scopes sc name d) s1) in w)) (ap (λ x. set_answer x sc name d) r.scopes ∙ answers);
    };
  }
  set_doing {replies} w scopes sc name d (Err failure.NoMemory) answers ok err same = record {
    by = λ first origin s r. record {
      got = [];
      replies = same ∙ sym (append-nil (replies w));
      after = s;
      stood = subst (λ x. Reached taken faults leads asking tree first origin (scoped_stage w x) s) (sym err) r;
      went = λ place future. adds_given future s _ (set_held_adds place sc name d (given future s));
    };
  }
