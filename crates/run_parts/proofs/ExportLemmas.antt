-- Changes of a frame, one after the other and all at once.
use Rattle.std.proofs.Common.{◌≡◌, ℕ, zero, suc, ◌+◌, Bool, List, [], ◌∷◌, ◌++◌, get_or, set, drop, map, append_assoc, Some, None, Result, Ok, Err, refl, sym, ap, ◌∙◌, subst, inl, inr}
use Rattle.std.proofs.lemmas.Bool.{cases_Bool}
use Rattle.std.proofs.lemmas.List.{map-append}
use Rattle.run_world.specs.Origin.{Origin}
use Rattle.run_world.specs.Part.{given, Doing, Changes}
use Rattle.run_world.specs.Seats.{export_of}
use Rattle.run_world.specs.declared.seat.Export as machine_export
use Rattle.run_parts.specs.Exports.{Change, changed_by, nested_changes, own_changes}
use Rattle.page_meaning.proofs.Growing.{quiet}
use Rattle.run_world.proofs.Adds.{Adds}
use Rattle.run_world.proofs.Parts.{as_doing, changed_doing, fail_doing, then_doing, well_doing}
use Rattle.page_meaning.specs.Context.{Export}
use Rattle.page_meaning.specs.Exports.{exports_of, outer_name, copied, copied_out, given_back, is_at_end, is_nested, restored, with_or_without}
use Rattle.page_meaning.specs.Growth.{Grows}
use Rattle.page_meaning.specs.State.{State, in_scopes}
use Rattle.page_meaning.specs.Variables.{entries_of_frame, set_held}
use Rattle.page_meaning.specs.Went.{Did, Went, Well}
use Rattle.pg_text.specs.declared.failure.Failure.{Failure}
use Rattle.pg_text.specs.declared.place.Place.{Place}
use Rattle.pg_value.specs.Datum.{Datum}
use Rattle.pg_value.specs.declared.fault.RunFault.{RunFault}
use Rattle.scopes.specs.Scopes.{Entries, ScopeState, changed_in, turned_to, without_variable}
use Rattle.scopes.specs.declared.held_scope.HeldScope.TheVariants as held
use Rattle.site_words.specs.Law.{Answer}
use Rattle.tag_decl.specs.declared.declaration.VarDecl.{VarDecl}
use Rattle.tag_decl.specs.declared.declaration.VarScope.{VarScope}

-- one variable more among those that a call gives
pub exports_more : (entries : Entries) (vs : List VarDecl) (i : ℕ) (v : VarDecl) (items more : List machine_export.Export) (x : machine_export.Export) (all : List Export) → drop i vs ≡ v ∷ drop (i + 1) vs
    → more ≡ items ++ x ∷ [] → x.own ≡ v.name → x.outer ≡ outer_name entries v → x.scope ≡ v.scope → map export_of items ++ exports_of entries (drop i vs) ≡ all
    → map export_of more ++ exports_of entries (drop (i + 1) vs) ≡ all
exports_more entries vs i v items more x all at pushed own outer scope before =
    let rest = exports_of entries (drop (i + 1) vs) in
    ap (λ ys. map export_of ys ++ rest) pushed ∙ ap (λ ys. ys ++ rest) (map-append export_of items (x ∷ [])) ∙ append_assoc (map export_of items) (export_of x ∷ []) rest
    ∙ ap (λ (n : List ℕ). map export_of items ++ record { own = n; outer = x.outer; scope = x.scope } ∷ rest) own
    ∙ ap (λ (n : List ℕ). map export_of items ++ record { own = v.name; outer = n; scope = x.scope } ∷ rest) outer
    ∙ ap (λ (sc : VarScope). map export_of items ++ record { own = v.name; outer = outer_name entries v; scope = sc } ∷ rest) scope
    ∙ ap (λ ds. map export_of items ++ exports_of entries ds) (sym at) ∙ before

-- an element set twice, and one set to itself
set_twice : {A : Type 0} (xs : List A) (i : ℕ) (v d : A) (f : A → A) → set (set xs i v) i (f (get_or (set xs i v) i d)) ≡ set xs i (f v)
set_twice [] i v d f = refl
set_twice (x ∷ xs) zero v d f = refl
set_twice (x ∷ xs) (suc i) v d f = ap (λ rest. x ∷ rest) (set_twice xs i v d f)

set_same : {A : Type 0} (xs : List A) (i : ℕ) (d : A) → set xs i (get_or xs i d) ≡ xs
set_same [] i d = refl
set_same (x ∷ xs) zero d = refl
set_same (x ∷ xs) (suc i) d = ap (λ rest. x ∷ rest) (set_same xs i d)

-- the entries of a frame after all changes
abbrev all_changed : List Change → Entries → Entries
all_changed [] es = es
all_changed (c ∷ rest) es = all_changed rest (with_or_without c.name c.value es)

-- a state with these frames
abbrev framed : State → List Entries → (current : ℕ) → State
framed s frames current = in_scopes (record { frames = frames; current = current; request = s.scopes.request; session = s.scopes.session }) s

changed_is : (cs : List Change) (s : State) → changed_by cs s ≡ framed s (set s.scopes.frames s.scopes.current (all_changed cs (get_or s.scopes.frames s.scopes.current []))) s.scopes.current
changed_is [] s = ap (λ frames. framed s frames s.scopes.current) (sym (set_same s.scopes.frames s.scopes.current []))
changed_is (c ∷ rest) s =
    changed_is rest (in_scopes (changed_in s.scopes held.Page (with_or_without c.name c.value)) s)
    ∙ ap (λ frames. framed s frames s.scopes.current)
    (set_twice s.scopes.frames s.scopes.current (with_or_without c.name c.value (get_or s.scopes.frames s.scopes.current [])) [] (all_changed rest))

pub changed_more : (xs ys : List Change) (s : State) → changed_by (xs ++ ys) s ≡ changed_by ys (changed_by xs s)
changed_more [] ys s = refl
changed_more (c ∷ xs) ys s = changed_more xs ys (in_scopes (changed_in s.scopes held.Page (with_or_without c.name c.value)) s)

-- the changes of own values are the meaning's copies
copied_is : (times : VarScope → Bool) (xs : List Export) (source target : Entries) → all_changed (own_changes times xs source) target ≡ copied times xs source target
copied_is times [] source target = refl
copied_is times (x ∷ rest) source target = elim (cases_Bool (times x.scope)) [
  | inl is ↦ rw is (copied_is times rest source (with_or_without x.outer (Rattle.pg_value.specs.Attrs.entry_at x.own source) target))
  | inr not ↦ rw not (copied_is times rest source target)
]

restored_is : (xs : List Export) (before target : Entries) → all_changed (nested_changes xs before) target ≡ restored xs before target
restored_is [] before target = refl
restored_is (x ∷ rest) before target = elim (cases_Bool (is_nested x.scope)) [
  | inl is ↦ rw is (restored_is rest before (with_or_without x.outer (Rattle.pg_value.specs.Attrs.entry_at x.outer before) target))
  | inr not ↦ rw not (restored_is rest before target)
]

-- with another frame current
abbrev pub turned : ℕ → State → State
turned frame s = in_scopes (turned_to s.scopes frame) s

copies : (times : VarScope → Bool) (xs : List Export) (frame : ℕ) (s : State)
    → changed_by (own_changes times xs (entries_of_frame s.scopes s.scopes.current)) (turned frame s) ≡ turned frame (in_scopes (copied_out times xs frame s.scopes) s)
copies times xs frame s =
    changed_is (own_changes times xs (entries_of_frame s.scopes s.scopes.current)) (turned frame s)
    ∙ ap (λ es. framed s (set s.scopes.frames frame es) frame) (copied_is times xs (entries_of_frame s.scopes s.scopes.current) (entries_of_frame s.scopes frame))

brings_back : (xs : List Export) (before : ScopeState) (frame : ℕ) (s : State)
    → changed_by (nested_changes xs (entries_of_frame before frame)) (turned frame s) ≡ turned frame (in_scopes (given_back xs before frame s.scopes) s)
brings_back xs before frame s =
    changed_is (nested_changes xs (entries_of_frame before frame)) (turned frame s)
    ∙ ap (λ es. framed s (set s.scopes.frames frame es) frame) (restored_is xs (entries_of_frame before frame) (entries_of_frame s.scopes frame))

pub changed_adds : (cs : List Change) (s : State) → Grows s (changed_by cs s)
changed_adds cs s =
    subst (Grows s) (sym (changed_is cs s))
    (quiet s (framed s (set s.scopes.frames s.scopes.current (all_changed cs (get_or s.scopes.frames s.scopes.current []))) s.scopes.current) refl refl refl)

-- the part that makes these changes
abbrev pub Making : List Change → Place → State → Did
Making cs place s = Well tt (changed_by cs s)

-- the variables of these times copied to the caller's frame
abbrev pub Copying : (VarScope → Bool) → List Export → ℕ → Place → State → Did
Copying times xs frame place s = Well tt (in_scopes (copied_out times xs frame s.scopes) s)

-- what is given back at the end of a call
abbrev pub Giving : List Export → ScopeState → ℕ → Place → State → Did
Giving xs before frame place s = Well tt (in_scopes (turned_to (given_back xs before frame (copied_out is_at_end xs frame s.scopes)) frame) s)

pub copying_adds : (times : VarScope → Bool) (xs : List Export) (frame : ℕ) (place : Place) → Adds (Copying times xs frame place)
copying_adds times xs frame place s = quiet s (in_scopes (copied_out times xs frame s.scopes) s) refl refl refl

pub giving_adds : (xs : List Export) (before : ScopeState) (frame : ℕ) (place : Place) → Adds (Giving xs before frame place)
giving_adds xs before frame place s = quiet s (in_scopes (turned_to (given_back xs before frame (copied_out is_at_end xs frame s.scopes)) frame) s) refl refl refl

module _ {W : Type 0} {reached : W → Origin → W → State → Type 0} (variables : W → ScopeState) (tells : (first w : W) (origin : Origin) (s : State) → reached first origin w s → variables w ≡ s.scopes) where
  copied_at : (times : VarScope → Bool) (xs : List Export) (frame own : ℕ) (old : W) → own ≡ (variables old).current → (first : W) (origin : Origin) (s : State) → reached first origin old s → (a : List Answer)
      → in_scopes (copied_out times xs frame s.scopes) (given a s) ≡ turned own (changed_by (own_changes times xs (entries_of_frame (variables old) (variables old).current)) (turned frame (given a s)))
  copied_at times xs frame own old is first origin s stands a =
      let e : variables old ≡ s.scopes = tells first old origin s stands in
      let same : (own_changes times xs (entries_of_frame (variables old) (variables old).current)) ≡ own_changes times xs (entries_of_frame s.scopes s.scopes.current) = ap (λ scopes. own_changes times xs (entries_of_frame scopes scopes.current)) e in
      let current : own ≡ s.scopes.current = is ∙ ap (λ scopes. scopes.current) e in
      sym (ap (λ cs. turned own (changed_by cs (turned frame (given a s)))) same ∙ ap (turned own) (copies times xs frame (given a s))
      ∙ ap (λ o. turned o (turned frame (in_scopes (copied_out times xs frame s.scopes) (given a s)))) current)

  given_at : (xs : List Export) (before : ScopeState) (frame : ℕ) (old : W) → (first : W) (origin : Origin) (s : State) → reached first origin old s → (a : List Answer)
      → in_scopes (turned_to (given_back xs before frame (copied_out is_at_end xs frame s.scopes)) frame) (given a s) ≡ changed_by (nested_changes xs (entries_of_frame before frame)) (changed_by (own_changes is_at_end xs (entries_of_frame (variables old) (variables old).current)) (turned frame (given a s)))
  given_at xs before frame old first origin s stands a =
      let same : (own_changes is_at_end xs (entries_of_frame (variables old) (variables old).current)) ≡ own_changes is_at_end xs (entries_of_frame s.scopes s.scopes.current) =
      ap (λ scopes. own_changes is_at_end xs (entries_of_frame scopes scopes.current)) (tells first old origin s stands) in
      sym (ap (λ cs. changed_by (nested_changes xs (entries_of_frame before frame)) (changed_by cs (turned frame (given a s)))) same ∙ ap (changed_by (nested_changes xs (entries_of_frame before frame))) (copies is_at_end xs frame (given a s))
      ∙ brings_back xs before frame (in_scopes (copied_out is_at_end xs frame s.scopes) (given a s)))

module _ {W : Type 0} {reached : W → Origin → W → State → Type 0} {replies : W → List Answer} where
  pub made_set : (old new : W) (c : Change) (d : Datum) (result : Result Unit (Failure RunFault)) → c.value ≡ Some d
      → Doing reached replies (λ (u : Unit {0}). u) (λ place. set_held place held.Page c.name d) old new result → Doing reached replies (λ (u : Unit {0}). u) (Making (c ∷ [])) old new result
  made_set old new c d result e does = as_doing old new result
      (λ first origin s stands place a. ap (λ v. Well tt (in_scopes (changed_in s.scopes held.Page (with_or_without c.name v)) (given a s))) e) does

  pub made_removed : (old new : W) (c : Change) → c.value ≡ None → Changes reached (λ s. in_scopes (without_variable s.scopes held.Page c.name) s) old new → replies new ≡ replies old
      → Doing reached replies (λ (u : Unit {0}). u) (Making (c ∷ [])) old new (Ok tt)
  made_removed old new c e changes kept = as_doing old new (Ok tt)
      (λ first origin s stands place a. ap (λ v. Well tt (in_scopes (changed_in s.scopes held.Page (with_or_without c.name v)) (given a s))) e)
      (changed_doing (λ s. in_scopes (without_variable s.scopes held.Page c.name) s) old new (λ a s. refl) changes kept tt)

  pub made_none : (w : W) → Doing reached replies (λ (u : Unit {0}). u) (Making []) w w (Ok tt)
  made_none w = well_doing w tt

  pub made_more : (old mid new : W) (xs ys : List Change) (result : Result Unit (Failure RunFault)) → Doing reached replies (λ (u : Unit {0}). u) (Making xs) old mid (Ok tt) → Doing reached replies (λ (u : Unit {0}). u) (Making ys) mid new result → Doing reached replies (λ (u : Unit {0}). u) (Making (xs ++ ys)) old new result
  made_more old mid new xs ys result one two = as_doing old new result (λ first origin s stands place a. ap (Well tt) (changed_more xs ys (given a s)))
      (then_doing (λ place u. Making ys place) old mid new tt result one two)

  pub made_failed : (old mid new : W) (xs : List Change) (c : Change) (rest : List Change) (e : Failure RunFault) → Doing reached replies (λ (u : Unit {0}). u) (Making xs) old mid (Ok tt) → Doing reached replies (λ (u : Unit {0}). u) (Making (c ∷ [])) mid new (Err e)
      → Doing reached replies (λ (u : Unit {0}). u) (Making (xs ++ c ∷ rest)) old new (Err e)
  made_failed old mid new xs c rest e one two = made_more old mid new xs (c ∷ rest) (Err e) one
      (fail_doing (λ place u. Making rest place) mid new e (λ place u s. changed_adds rest s) two)

  -- behind a turn to another frame
  turned_doing : {A B : Type 0} {view : A → B} {part : Place → State → Went B} (frame : ℕ) (old mid new : W) (result : Result A (Failure RunFault)) → Changes reached (turned frame) old mid → replies mid ≡ replies old
      → Doing reached replies view part mid new result → Doing reached replies view (λ place s. part place (turned frame s)) old new result
  turned_doing {part = part} frame old mid new result changes kept does =
      then_doing {view = λ (u : Unit {0}). u} (λ place u. part place) old mid new tt result (changed_doing (turned frame) old mid (λ a s. refl) changes kept tt) does

  module _ (variables : W → ScopeState) (tells : (first w : W) (origin : Origin) (s : State) → reached first origin w s → variables w ≡ s.scopes) where
    pub copied_well : (times : VarScope → Bool) (xs : List Export) (frame own : ℕ) (old mid last new : W) → own ≡ (variables old).current → Changes reached (turned frame) old mid → replies mid ≡ replies old
        → Doing reached replies (λ (u : Unit {0}). u) (Making (own_changes times xs (entries_of_frame (variables old) (variables old).current))) mid last (Ok tt) → Changes reached (turned own) last new → replies new ≡ replies last → Doing reached replies (λ (u : Unit {0}). u) (Copying times xs frame) old new (Ok tt)
    copied_well times xs frame own old mid last new is turns kept makes back same = as_doing old new (Ok tt)
        (λ first origin s stands place a. ap (Well tt) (copied_at variables tells times xs frame own old is first origin s stands a))
        (turned_doing {part = λ place s. Well tt (turned own (changed_by (own_changes times xs (entries_of_frame (variables old) (variables old).current)) s))} frame old mid new (Ok tt) turns kept
        (then_doing (λ place u s. Well tt (turned own s)) mid last new tt (Ok tt) makes (changed_doing (turned own) last new (λ a s. refl) back same tt)))

    pub copied_failed : (times : VarScope → Bool) (xs : List Export) (frame own : ℕ) (old mid new : W) (e : Failure RunFault) → own ≡ (variables old).current → Changes reached (turned frame) old mid
        → replies mid ≡ replies old → Doing reached replies (λ (u : Unit {0}). u) (Making (own_changes times xs (entries_of_frame (variables old) (variables old).current))) mid new (Err e) → Doing reached replies (λ (u : Unit {0}). u) (Copying times xs frame) old new (Err e)
    copied_failed times xs frame own old mid new e is turns kept makes = as_doing old new (Err e)
        (λ first origin s stands place a. ap (Well tt) (copied_at variables tells times xs frame own old is first origin s stands a))
        (turned_doing {part = λ place s. Well tt (turned own (changed_by (own_changes times xs (entries_of_frame (variables old) (variables old).current)) s))} frame old mid new (Err e) turns kept
        (fail_doing (λ place u s. Well tt (turned own s)) mid new e (λ place u s. quiet s (turned own s) refl refl refl) makes))

    pub given_well : (xs : List Export) (before : ScopeState) (frame : ℕ) (old mid last new : W) (result : Result Unit (Failure RunFault)) → Changes reached (turned frame) old mid → replies mid ≡ replies old
        → Doing reached replies (λ (u : Unit {0}). u) (Making (own_changes is_at_end xs (entries_of_frame (variables old) (variables old).current))) mid last (Ok tt) → Doing reached replies (λ (u : Unit {0}). u) (Making (nested_changes xs (entries_of_frame before frame))) last new result → Doing reached replies (λ (u : Unit {0}). u) (Giving xs before frame) old new result
    given_well xs before frame old mid last new result turns kept makes brings = as_doing old new result
        (λ first origin s stands place a. ap (Well tt) (given_at variables tells xs before frame old first origin s stands a))
        (turned_doing {part = λ place s. Well tt (changed_by (nested_changes xs (entries_of_frame before frame)) (changed_by (own_changes is_at_end xs (entries_of_frame (variables old) (variables old).current)) s))} frame old mid new result turns kept
        (then_doing (λ place u. Making (nested_changes xs (entries_of_frame before frame)) place) mid last new tt result makes brings))

    pub given_failed : (xs : List Export) (before : ScopeState) (frame : ℕ) (old mid new : W) (e : Failure RunFault) → Changes reached (turned frame) old mid → replies mid ≡ replies old → Doing reached replies (λ (u : Unit {0}). u) (Making (own_changes is_at_end xs (entries_of_frame (variables old) (variables old).current))) mid new (Err e)
        → Doing reached replies (λ (u : Unit {0}). u) (Giving xs before frame) old new (Err e)
    given_failed xs before frame old mid new e turns kept makes = as_doing old new (Err e)
        (λ first origin s stands place a. ap (Well tt) (given_at variables tells xs before frame old first origin s stands a))
        (turned_doing {part = λ place s. Well tt (changed_by (nested_changes xs (entries_of_frame before frame)) (changed_by (own_changes is_at_end xs (entries_of_frame (variables old) (variables old).current)) s))} frame old mid new (Err e) turns kept
        (fail_doing (λ place u. Making (nested_changes xs (entries_of_frame before frame)) place) mid new e (λ place u s. changed_adds (nested_changes xs (entries_of_frame before frame)) s) makes))
