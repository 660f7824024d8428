-- A part is tame that only adds steps and pieces, keeps as many bodies, and takes no visit and no frame back; and how such parts are joined.
use Rattle.std.proofs.Common.{◌≡◌, ◌≤◌, ℕ, Bool, true, false, [], length, Result, Ok, Err, refl, ap, ◌∙◌, arith}
use Rattle.std.specs.Prelude.{get_or}
use Rattle.std.proofs.lemmas.List.{length-set}
use Rattle.pg_text.specs.declared.place.Place.{Place}
use Rattle.pg_value.specs.declared.fault.RunFault.{RunFault}
use Rattle.scopes.specs.Scopes.{Entries, ScopeState, changed_in}
use Rattle.scopes.specs.declared.held_scope.HeldScope.{HeldScope}
use Rattle.scopes.specs.declared.held_scope.HeldScope.TheVariants as held
use Rattle.page_meaning.proofs.Growing.{both, quiet, same, trace_of}
use Rattle.page_meaning.specs.Growth.{state_of, session_of, Grows}
use Rattle.page_meaning.specs.State.{State, in_scopes}
use Rattle.page_meaning.specs.Went.{Went, Well, Raised, Ended, Awaits, then_do, either, result_of}

abbrev pub kept : State → ℕ
kept s = length s.writer.kept

abbrev pub framed : State → ℕ
framed s = length s.scopes.frames

-- from one state to another
pub record Keeps (s t : State) : Type 0 where
  pub grows : Grows s t
  pub bodies : kept t ≡ kept s
  pub visits : s.visits ≤ t.visits
  pub frames : framed s ≤ framed t

pub keeps_same : (s : State) → Keeps s s
keeps_same s = record { grows = same s; bodies = refl; visits = omega arith; frames = omega arith }

pub keeps_both : (s t u : State) → Keeps s t → Keeps t u → Keeps s u
keeps_both s t u g k = record { grows = both s t u g.grows k.grows; bodies = k.bodies ∙ g.bodies; visits = omega (arith, g.visits, k.visits); frames = omega (arith, g.frames, k.frames) }

-- a change of neither the steps nor the writer nor the session nor the visits, which takes no frame back
keeps_quiet : (s t : State) → trace_of t ≡ trace_of s → t.writer ≡ s.writer → session_of t ≡ session_of s → t.visits ≡ s.visits → framed s ≤ framed t → Keeps s t
keeps_quiet s t trace writer session visits frames =
    record { grows = quiet s t trace (ap (λ w. w.pieces) writer) session; bodies = ap (λ w. length w.kept) writer; visits = omega (arith, visits); frames = frames }

pub keeps_scopes : (s : State) (scopes : ScopeState) → framed s ≤ length scopes.frames → Keeps s (in_scopes scopes s)
keeps_scopes s scopes frames = keeps_quiet s (in_scopes scopes s) refl refl refl refl frames

-- how a part goes from a state
pub record TameAt (s : State) {A : Type 0} (w : Went A) : Type 0 where
  pub grows : Grows s (state_of w)
  pub bodies : kept (state_of w) ≡ kept s
  pub visits : s.visits ≤ (state_of w).visits
  pub frames : framed s ≤ framed (state_of w)

pub keeps_at : {A : Type 0} (s : State) (w : Went A) → TameAt s w → Keeps s (state_of w)
keeps_at s w h = record { grows = h.grows; bodies = h.bodies; visits = h.visits; frames = h.frames }

-- from every state
abbrev pub Tame : {A : Type 0} → (State → Went A) → Type 0
Tame part = (s : State) → TameAt s (part s)

-- a change of the state
abbrev pub Calm : (State → State) → Type 0
Calm change = (s : State) → Keeps s (change s)

pub scopes_calm : (change : ScopeState → ScopeState) → ((scopes : ScopeState) → length scopes.frames ≤ length (change scopes).frames) → Calm (λ s. in_scopes (change s.scopes) s)
scopes_calm change frames s = keeps_scopes s (change s.scopes) (frames s.scopes)

-- a change of the entries of a scope
pub changed_frames : (scopes : ScopeState) (sc : HeldScope) (change : Entries → Entries) → length scopes.frames ≤ length (changed_in scopes sc change).frames
changed_frames scopes held.Page change = omega (arith, length-set scopes.frames scopes.current (change (get_or scopes.frames scopes.current [])))
changed_frames scopes held.Request change = omega arith
changed_frames scopes held.Session change = omega arith

-- a change of the variables of a scope
pub changed_calm : (sc : HeldScope) (change : Entries → Entries) → Calm (λ s. in_scopes (changed_in s.scopes sc change) s)
changed_calm sc change = scopes_calm (λ scopes. changed_in scopes sc change) (λ scopes. changed_frames scopes sc change)

pub well : {A : Type 0} (a : A) → Tame (Well a)
well a s = record { grows = same s; bodies = refl; visits = omega arith; frames = omega arith }

pub raised : {A : Type 0} (f : RunFault) (place : Place) → Tame (λ s. let w : Went A = Raised f place s in w)
raised f place s = record { grows = same s; bodies = refl; visits = omega arith; frames = omega arith }

pub result : {A : Type 0} (place : Place) (r : Result A RunFault) → Tame (result_of place r)
result place (Ok a) s = record { grows = same s; bodies = refl; visits = omega arith; frames = omega arith }
result place (Err f) s = record { grows = same s; bodies = refl; visits = omega arith; frames = omega arith }

pub changed : {A : Type 0} (a : A) (change : State → State) → Calm change → Tame (λ s. Well a (change s))
changed a change calm s = let h = calm s in record { grows = h.grows; bodies = h.bodies; visits = h.visits; frames = h.frames }

-- behind what keeps
pub keeps_then : {A : Type 0} (s t : State) (w : Went A) → Keeps s t → TameAt t w → TameAt s w
keeps_then s t w h g =
    let k = keeps_both s t (state_of w) h (keeps_at t w g) in
    record { grows = k.grows; bodies = k.bodies; visits = k.visits; frames = k.frames }

pub behind : {A : Type 0} (part : State → Went A) (change : State → State) → Calm change → Tame part → Tame (λ s. part (change s))
behind part change calm h s = keeps_then s (change s) (part (change s)) (calm s) (h (change s))

pub then_at : {A B : Type 0} (s : State) (w : Went A) (go : A → State → Went B) → TameAt s w → ((a : A) → Tame (go a)) → TameAt s (then_do w go)
then_at s (Well a t) go h next = keeps_then s t (go a t) (keeps_at s (Well a t) h) (next a t)
then_at s (Raised f place t) go h next = record { grows = h.grows; bodies = h.bodies; visits = h.visits; frames = h.frames }
then_at s (Ended leaving t) go h next = record { grows = h.grows; bodies = h.bodies; visits = h.visits; frames = h.frames }
then_at s (Awaits step t) go h next = record { grows = h.grows; bodies = h.bodies; visits = h.visits; frames = h.frames }

-- one part after the other
pub thens : {A B : Type 0} (part : State → Went A) (go : A → State → Went B) → Tame part → ((a : A) → Tame (go a)) → Tame (λ s. then_do (part s) go)
thens part go h next s = then_at s (part s) go (h s) next

pub either_at : {A : Type 0} (b : Bool) (one other : State → Went A) (s : State) → TameAt s (one s) → TameAt s (other s) → TameAt s (either b one other s)
either_at true one other s h k = h
either_at false one other s h k = k

pub eithers : {A : Type 0} (b : Bool) (one other : State → Went A) → Tame one → Tame other → Tame (either b one other)
eithers b one other h k s = either_at b one other s (h s) (k s)
