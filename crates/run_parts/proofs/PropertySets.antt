-- What is done with the record of a variable.
use Rattle.std.proofs.Common.{◌≡◌, ℕ, List, [], ◌∷◌, Option, Some, None, Result, Ok, Err, refl, sym, ap, ◌∙◌, subst, codes}
use Rattle.http_in.specs.declared.params.Param.{Param}
use Rattle.page_code.specs.declared.operands.PropertyMode.{PropertyMode}
use Rattle.page_code.specs.declared.operands.PropertyMode.TheVariants as mode
use Rattle.run_world.specs.Origin.{Origin}
use Rattle.run_world.specs.Part.{Doing}
use Rattle.run_parts.specs.Properties.{found_property, property_in, written}
use Rattle.run_values.specs.Properties.{Found, changed_all, changed_one, one_changed, property_found}
use Rattle.page_meaning.proofs.Growing.{same}
use Rattle.run_world.proofs.Adds.{Adds, assign_adds, look_up_adds, result, thens}
use Rattle.run_parts.proofs.Lookups.{seen}
use Rattle.run_world.proofs.Parts.{as_doing, fail_doing, result_doing, then_doing}
use Rattle.page_meaning.specs.Attributes.{coerced}
use Rattle.page_meaning.specs.Beans.{filled, found_set, like, one_by, property_of, written_back}
use Rattle.page_meaning.specs.Core.{property_replaced, set_entry_mean}
use Rattle.page_meaning.specs.Growth.{Grows, state_of}
use Rattle.page_meaning.specs.Page.{every, one}
use Rattle.page_meaning.specs.Request.{first_values}
use Rattle.page_meaning.specs.State.{State}
use Rattle.page_meaning.specs.Variables.{assign, look_up}
use Rattle.page_meaning.specs.Went.{Did, Went, Well, Raised, Ended, Awaits, then_do, result_of}
use Rattle.page_table.specs.Operations.{property_set, value_at}
use Rattle.pg_text.specs.Failure.{AnswersAs}
use Rattle.pg_text.specs.declared.failure.Failure.{Failure}
use Rattle.pg_text.specs.declared.place.Place.{Place}
use Rattle.pg_value.proofs.Inverses.{entries_of-entry_list}
use Rattle.pg_value.specs.Attrs.{entry_at, with_entry}
use Rattle.pg_value.specs.Datum.{Datum, null, truth, number, text, list, rec, entry_list, entries_of}
use Rattle.pg_value.specs.Value.{datum_of}
use Rattle.pg_value.specs.declared.fault.RunFault.{RunFault}
use Rattle.pg_value.specs.declared.scope.Scope.{Scope}
use Rattle.pg_value.specs.declared.value.Value.{Value}
use Rattle.scopes.specs.Scopes as scopes
use Rattle.site_words.specs.Law.{Answer}

pub then_same : {A B : Type 0} (w : Went A) (f g : A → State → Went B) → ((a : A) (t : State) → f a t ≡ g a t) → then_do w f ≡ then_do w g
then_same (Well a t) f g e = e a t
then_same (Raised fault place t) f g e = refl
then_same (Ended leaving t) f g e = refl
then_same (Awaits step t) f g e = refl

-- the property of a record, as a table's answer
found_in : (place : Place) (property : List ℕ) (sc : Scope) (d : Datum) (s : State) → property_in place property sc d s ≡ result_of place (property_found property sc d) s
found_in place property sc (rec es) s = go (property_of property (rec es))
  where
    go : (r : Result Datum RunFault)
        → then_do {B = Found} (result_of place r s) (λ old s1. Well (record { scope = sc; entries = entry_list es; old = old }) s1)
        ≡ result_of place (Rattle.el_ops.specs.Operands.answered (λ old. record { scope = sc; entries = entry_list es; old = old }) r) s
    go (Ok old) = refl
    go (Err f) = refl
found_in place property sc null s = refl
found_in place property sc (truth b) s = refl
found_in place property sc (number n) s = refl
found_in place property sc (text t) s = refl
found_in place property sc (list is) s = refl

-- all properties set by their parameters
all_in : (place : Place) (name : List ℕ) (params : List Param) (sc : Scope) (d : Datum) (s : State)
    → found_set place place name every [] params sc d s ≡ then_do (result_of place (changed_all (first_values params) d) s) (λ es s1. written place sc es name s1)
all_in place name params sc (rec es) s = go (changed_all (first_values params) (rec es))
  where
    go : (r : Result scopes.Entries RunFault)
        → then_do (then_do (result_of place r s) (λ es s1. Well (Some es) s1)) (λ changed s1. written_back place sc name changed s1) ≡ then_do (result_of place r s) (λ es s1. written place sc es name s1)
    go (Ok x) = refl
    go (Err f) = refl
all_in place name params sc null s = refl
all_in place name params sc (truth b) s = refl
all_in place name params sc (number n) s = refl
all_in place name params sc (text t) s = refl
all_in place name params sc (list is) s = refl

-- one property set by a parameter
one_in : (place : Place) (name property parameter : List ℕ) (params : List Param) (sc : Scope) (d : Datum) (s : State)
    → found_set place place name (one property parameter) [] params sc d s
    ≡ then_do (result_of place (changed_one (first_values params) property parameter d) s) (λ changed s1. written_back place sc name changed s1)
one_in place name property parameter params sc (rec es) s =
    ap (λ x. then_do (then_do (result_of place (property_of property (rec x)) s)
    (λ old s1. one_by place place (entry_list es) property old None (filled (entry_at parameter (first_values params))) s1)) (λ changed s1. written_back place sc name changed s1))
    (entries_of-entry_list es)
    ∙ go (property_of property (rec es)) (filled (entry_at parameter (first_values params)))
  where
    coerces : (r : Result Datum RunFault)
        → then_do (then_do (result_of place r s) (λ d s1. Well (Some (with_entry (entry_list es) property d)) s1)) (λ changed s1. written_back place sc name changed s1)
        ≡ then_do (result_of place (Rattle.el_ops.specs.Operands.answered (λ new. Some (with_entry (entry_list es) property new)) r) s) (λ changed s1. written_back place sc name changed s1)
    coerces (Ok d) = refl
    coerces (Err f) = refl

    go : (r : Result Datum RunFault) (new : Option Datum)
        → then_do (then_do (result_of place r s) (λ old s1. one_by place place (entry_list es) property old None new s1)) (λ changed s1. written_back place sc name changed s1)
        ≡ then_do (result_of place (Rattle.jstl_functions.specs.Functions.and_then r (λ old. one_changed (entry_list es) property old new)) s) (λ changed s1. written_back place sc name changed s1)
    go (Ok old) (Some d) = coerces (coerced (like old) d)
    go (Ok old) None = refl
    go (Err f) new = refl
one_in place name property parameter params sc null s = refl
one_in place name property parameter params sc (truth b) s = refl
one_in place name property parameter params sc (number n) s = refl
one_in place name property parameter params sc (text t) s = refl
one_in place name property parameter params sc (list is) s = refl

pub written_adds : (place : Place) (sc : Scope) (es : scopes.Entries) (name : List ℕ) → Adds (written place sc es name)
written_adds place sc es name =
    thens (result_of place (Rattle.jstl_functions.specs.Functions.measured (rec (entries_of es)))) (λ r s1. assign place sc name r s1)
    (result place (Rattle.jstl_functions.specs.Functions.measured (rec (entries_of es)))) (λ r. assign_adds place sc name r)

pub back_adds : (place : Place) (sc : Scope) (changed : Option scopes.Entries) (name : List ℕ) → Adds (λ s. written_back place sc name changed s)
back_adds place sc (Some es) name s = written_adds place sc es name s
back_adds place sc None name s = same s

-- what setting adds
pub entry_set_adds : (place : Place) (name : List ℕ) (key d : Datum) → Adds (property_set place name mode.Entry [] (key ∷ d ∷ []))
entry_set_adds place name key d =
    thens (look_up place name)
    (λ q s1. then_do (result_of place (property_replaced (Rattle.page_meaning.specs.Attributes.text_in (Some key)) d q.1) s1) (λ r s2. assign place q.0 name r s2)) (look_up_adds place name)
    (λ q. replaced_adds place name (Rattle.page_meaning.specs.Attributes.text_in (Some key)) d q.0 q.1)
  where
    replaced_adds : (place : Place) (name property : List ℕ) (d : Datum) (sc : Scope) (old : Datum) → Adds (λ s1. then_do (result_of place (property_replaced property d old) s1) (λ r s2. assign place sc name r s2))
    replaced_adds place name property d sc old =
        thens (result_of place (property_replaced property d old)) (λ r s2. assign place sc name r s2) (result place (property_replaced property d old)) (λ r. assign_adds place sc name r)

-- what is done with the variable that was found
abbrev all_written : Place → List ℕ → (values : scopes.Entries) → Scope → Datum → State → Did
all_written place name values sc d s = then_do (result_of place (changed_all values d) s) (λ es s1. written place sc es name s1)

abbrev one_written : Place → (name property parameter : List ℕ) → (values : scopes.Entries) → Scope → Datum → State → Did
one_written place name property parameter values sc d s = then_do (result_of place (changed_one values property parameter d) s) (λ changed s1. written_back place sc name changed s1)

all_written_adds : (place : Place) (name : List ℕ) (values : scopes.Entries) (sc : Scope) (d : Datum) → Adds (all_written place name values sc d)
all_written_adds place name values sc d = thens (result_of place (changed_all values d)) (λ es s1. written place sc es name s1) (result place (changed_all values d)) (λ es. written_adds place sc es name)

one_written_adds : (place : Place) (name property parameter : List ℕ) (values : scopes.Entries) (sc : Scope) (d : Datum) → Adds (one_written place name property parameter values sc d)
one_written_adds place name property parameter values sc d =
    thens (result_of place (changed_one values property parameter d)) (λ changed s1. written_back place sc name changed s1) (result place (changed_one values property parameter d)) (λ changed. back_adds place sc changed name)

pub all_set_adds : (place : Place) (name : List ℕ) (params : List Param) → Adds (property_set place name mode.Parameters params [])
all_set_adds place name params = thens (look_up place name) (λ q s1. found_set place place name every [] params q.0 q.1 s1) (look_up_adds place name) (λ q. found q.0 q.1)
  where
    found : (sc : Scope) (d : Datum) → Adds (λ s. found_set place place name every [] params sc d s)
    found sc d s = subst (λ w. Grows s (state_of w)) (sym (all_in place name params sc d s)) (all_written_adds place name (first_values params) sc d s)

pub one_set_adds : (place : Place) (name property parameter : List ℕ) (params : List Param) → Adds (property_set place name (mode.Parameter property parameter) params [])
one_set_adds place name property parameter params =
    thens (look_up place name) (λ q s1. found_set place place name (one property parameter) [] params q.0 q.1 s1) (look_up_adds place name) (λ q. found q.0 q.1)
  where
    found : (sc : Scope) (d : Datum) → Adds (λ s. found_set place place name (one property parameter) [] params sc d s)
    found sc d s = subst (λ w. Grows s (state_of w)) (sym (one_in place name property parameter params sc d s)) (one_written_adds place name property parameter (first_values params) sc d s)

module _ {W : Type 0} {reached : W → Origin → W → State → Type 0} {replies : W → List Answer} where
  -- a table's answer, and what is done with it
  pub answered_doing : {A B C D : Type 0} (view : A → B) {other : C → D} (expected : Result B RunFault) (go : Place → B → State → Went D) (old new : W) (a : A) (result : Result C (Failure RunFault))
      → expected ≡ Ok (view a) → Doing reached replies other (λ place. go place (view a)) old new result → Doing reached replies other (λ place s. then_do (result_of place expected s) (go place)) old new result
  answered_doing view expected go old new a value e does = then_doing {view = view} go old old new a value (result_doing old expected (Ok a) e) does

  pub answered_failed : {A B C D : Type 0} (view : A → B) {other : C → D} (expected : Result B RunFault) (go : Place → B → State → Went D) (w : W) (e : Failure RunFault)
      → ((place : Place) (b : B) → Adds (go place b)) → AnswersAs view expected (Err e) → Doing reached replies other (λ place s. then_do (result_of place expected s) (go place)) w w (Err e)
  answered_failed view expected go w e adds answers = fail_doing {view = view} go w w e adds (result_doing w expected (Err e) answers)

  -- a variable that was looked up, and what is made of it alone
  pub looked_up : {A B : Type 0} {view : A → B} (go : Scope → Datum → Result B RunFault) (old new : W) (name : List ℕ) (p : Scope × Value) (result : Result A (Failure RunFault))
      → Doing reached replies seen (λ place. look_up place name) old new (Ok p) → AnswersAs view (go p.0 (datum_of p.1)) result
      → Doing reached replies view (λ place s. then_do (look_up place name s) (λ q s1. result_of place (go q.0 q.1) s1)) old new result
  looked_up go old new name p value does answers =
      then_doing (λ place q s1. result_of place (go q.0 q.1) s1) old new new p value does (result_doing new (go p.0 (datum_of p.1)) value answers)

  pub looked_failed : {A B : Type 0} {view : A → B} (go : Scope → Datum → Result B RunFault) (old new : W) (name : List ℕ) (e : Failure RunFault)
      → Doing reached replies seen (λ place. look_up place name) old new (Err e) → Doing reached replies view (λ place s. then_do (look_up place name s) (λ q s1. result_of place (go q.0 q.1) s1)) old new (Err e)
  looked_failed go old new name e does = fail_doing (λ place q s1. result_of place (go q.0 q.1) s1) old new e (λ place q. result place (go q.0 q.1)) does

  pub found_doing : (old new : W) (name property : List ℕ) {A : Type 0} {view : A → Found} (result : Result A (Failure RunFault))
      → Doing reached replies view (λ place s. then_do (look_up place name s) (λ q s1. result_of place (property_found property q.0 q.1) s1)) old new result
      → Doing reached replies view (λ place. found_property place name property) old new result
  found_doing old new name property value does = as_doing old new value
      (λ first origin s stands place a.
      then_same (look_up place name (Rattle.run_world.specs.Part.given a s)) (λ q s1. property_in place property q.0 q.1 s1) (λ q s1. result_of place (property_found property q.0 q.1) s1) (λ q t. found_in place property q.0 q.1 t))
      does

  pub all_doing : (old new : W) (name : List ℕ) (params : List Param) (result : Result Unit (Failure RunFault))
      → Doing reached replies (λ (u : Unit {0}). u) (λ place s. then_do (look_up place name s) (λ q s1. then_do (result_of place (changed_all (first_values params) q.1) s1) (λ es s2. written place q.0 es name s2))) old new result
      → Doing reached replies (λ (u : Unit {0}). u) (λ place. property_set place name mode.Parameters params []) old new result
  all_doing old new name params value does = as_doing old new value
      (λ first origin s stands place a.
      then_same (look_up place name (Rattle.run_world.specs.Part.given a s)) (λ q s1. found_set place place name every [] params q.0 q.1 s1)
      (λ q s1. then_do (result_of place (changed_all (first_values params) q.1) s1) (λ es s2. written place q.0 es name s2)) (λ q t. all_in place name params q.0 q.1 t))
      does

  pub one_doing : (old new : W) (name property parameter : List ℕ) (params : List Param) (result : Result Unit (Failure RunFault))
      → Doing reached replies (λ (u : Unit {0}). u)
      (λ place s. then_do (look_up place name s) (λ q s1. then_do (result_of place (changed_one (first_values params) property parameter q.1) s1) (λ changed s2. written_back place q.0 name changed s2))) old new result
      → Doing reached replies (λ (u : Unit {0}). u) (λ place. property_set place name (mode.Parameter property parameter) params []) old new result
  one_doing old new name property parameter params value does = as_doing old new value
      (λ first origin s stands place a.
      then_same (look_up place name (Rattle.run_world.specs.Part.given a s)) (λ q s1. found_set place place name (one property parameter) [] params q.0 q.1 s1)
      (λ q s1. then_do (result_of place (changed_one (first_values params) property parameter q.1) s1) (λ changed s2. written_back place q.0 name changed s2))
      (λ q t. one_in place name property parameter params q.0 q.1 t))
      does

  pub entry_doing : (old new : W) (name property : List ℕ) (key d : Datum) (result : Result Unit (Failure RunFault)) → property ≡ Rattle.page_meaning.specs.Attributes.text_in (Some key)
      → Doing reached replies (λ (u : Unit {0}). u)
      (λ place s. then_do (look_up place name s) (λ q s1. then_do (result_of place (property_replaced property d q.1) s1) (λ r s2. assign place q.0 name r s2))) old new result
      → Doing reached replies (λ (u : Unit {0}). u) (λ place. property_set place name mode.Entry [] (key ∷ d ∷ [])) old new result
  entry_doing old new name property key d value e does = as_doing old new value
      (λ first origin s stands place a.
      ap (λ t. then_do (look_up place name (Rattle.run_world.specs.Part.given a s)) (λ q s1. then_do (result_of place (property_replaced t d q.1) s1) (λ r s2. assign place q.0 name r s2))) (sym e))
      does

  -- the exits of a change of all properties
  module _ (name : List ℕ) (params : List Param) where
    pub all_failed : (old new : W) (e : Failure RunFault) → Doing reached replies seen (λ place. look_up place name) old new (Err e)
        → Doing reached replies (λ (u : Unit {0}). u) (λ place. property_set place name mode.Parameters params []) old new (Err e)
    all_failed old new e does = all_doing old new name params (Err e)
        (fail_doing (λ place q. all_written place name (first_values params) q.0 q.1) old new e (λ place q. all_written_adds place name (first_values params) q.0 q.1) does)

    pub all_unchanged : (old new : W) (values : scopes.Entries) (p : Scope × Value) (e : Failure RunFault) → values ≡ first_values params → Doing reached replies seen (λ place. look_up place name) old new (Ok p)
        → AnswersAs (λ (x : scopes.Entries). x) (changed_all values (datum_of p.1)) (Err e) → Doing reached replies (λ (u : Unit {0}). u) (λ place. property_set place name mode.Parameters params []) old new (Err e)
    all_unchanged old new values p e is does answers = all_doing old new name params (Err e)
        (then_doing (λ place q. all_written place name (first_values params) q.0 q.1) old new new p (Err e) does
        (answered_failed (λ (x : scopes.Entries). x) (changed_all (first_values params) (datum_of p.1)) (λ place es s. written place p.0 es name s) new e (λ place es. written_adds place p.0 es name)
        (subst (λ (v : scopes.Entries). AnswersAs (λ (x : scopes.Entries). x) (changed_all v (datum_of p.1)) (Err e)) is answers)))

    pub all_changed : (old mid new : W) (values : scopes.Entries) (p : Scope × Value) (es : scopes.Entries) (result : Result Unit (Failure RunFault)) → values ≡ first_values params
        → Doing reached replies seen (λ place. look_up place name) old mid (Ok p) → changed_all values (datum_of p.1) ≡ Ok es
        → Doing reached replies (λ (u : Unit {0}). u) (λ place. written place p.0 es name) mid new result
        → Doing reached replies (λ (u : Unit {0}). u) (λ place. property_set place name mode.Parameters params []) old new result
    all_changed old mid new values p es value is does e writes = all_doing old new name params value
        (then_doing (λ place q. all_written place name (first_values params) q.0 q.1) old mid new p value does
        (answered_doing (λ (x : scopes.Entries). x) (changed_all (first_values params) (datum_of p.1)) (λ place es s. written place p.0 es name s) mid new es value
        (ap (λ (v : scopes.Entries). changed_all v (datum_of p.1)) (sym is) ∙ e) writes))

  -- the exits of a change of one property
  module _ (name property parameter : List ℕ) (params : List Param) where
    pub one_failed : (old new : W) (e : Failure RunFault) → Doing reached replies seen (λ place. look_up place name) old new (Err e)
        → Doing reached replies (λ (u : Unit {0}). u) (λ place. property_set place name (mode.Parameter property parameter) params []) old new (Err e)
    one_failed old new e does = one_doing old new name property parameter params (Err e)
        (fail_doing (λ place q. one_written place name property parameter (first_values params) q.0 q.1) old new e (λ place q. one_written_adds place name property parameter (first_values params) q.0 q.1) does)

    pub one_unchanged : (old new : W) (values : scopes.Entries) (p : Scope × Value) (e : Failure RunFault) → values ≡ first_values params → Doing reached replies seen (λ place. look_up place name) old new (Ok p)
        → AnswersAs (λ (x : Option scopes.Entries). x) (changed_one values property parameter (datum_of p.1)) (Err e)
        → Doing reached replies (λ (u : Unit {0}). u) (λ place. property_set place name (mode.Parameter property parameter) params []) old new (Err e)
    one_unchanged old new values p e is does answers = one_doing old new name property parameter params (Err e)
        (then_doing (λ place q. one_written place name property parameter (first_values params) q.0 q.1) old new new p (Err e) does
        (answered_failed (λ (x : Option scopes.Entries). x) (changed_one (first_values params) property parameter (datum_of p.1)) (λ place changed s. written_back place p.0 name changed s) new e
        (λ place changed. back_adds place p.0 changed name)
        (subst (λ (v : scopes.Entries). AnswersAs (λ (x : Option scopes.Entries). x) (changed_one v property parameter (datum_of p.1)) (Err e)) is answers)))

    pub one_changed_to : (old mid new : W) (values : scopes.Entries) (p : Scope × Value) (changed : Option scopes.Entries) (result : Result Unit (Failure RunFault)) → values ≡ first_values params
        → Doing reached replies seen (λ place. look_up place name) old mid (Ok p) → changed_one values property parameter (datum_of p.1) ≡ Ok changed
        → Doing reached replies (λ (u : Unit {0}). u) (λ place s. written_back place p.0 name changed s) mid new result
        → Doing reached replies (λ (u : Unit {0}). u) (λ place. property_set place name (mode.Parameter property parameter) params []) old new result
    one_changed_to old mid new values p changed value is does e writes = one_doing old new name property parameter params value
        (then_doing (λ place q. one_written place name property parameter (first_values params) q.0 q.1) old mid new p value does
        (answered_doing (λ (x : Option scopes.Entries). x) (changed_one (first_values params) property parameter (datum_of p.1)) (λ place changed s. written_back place p.0 name changed s) mid new changed value
        (ap (λ (v : scopes.Entries). changed_one v property parameter (datum_of p.1)) (sym is) ∙ e) writes))

  -- the same by the mode and the values that were given
  pub entry_as : (old new : W) (name : List ℕ) (m : PropertyMode) (params : List Param) (ds : List Datum) (key d : Datum) (result : Result Unit (Failure RunFault)) → m ≡ mode.Entry → value_at 0 ds ≡ key → value_at 1 ds ≡ d
      → Doing reached replies (λ (u : Unit {0}). u) (λ place. property_set place name mode.Entry [] (key ∷ d ∷ [])) old new result
      → Doing reached replies (λ (u : Unit {0}). u) (λ place. property_set place name m params ds) old new result
  entry_as old new name m params ds key d value is first second does = as_doing old new value
      (λ first_world origin s stands place a.
      ap (λ x. property_set place name x params ds (Rattle.run_world.specs.Part.given a s)) is
      ∙ ap (λ x. set_entry_mean place name ((codes "property", x) ∷ (codes "value", value_at 1 ds) ∷ []) (λ s1. Well tt s1) (Rattle.run_world.specs.Part.given a s)) first
      ∙ ap (λ x. set_entry_mean place name ((codes "property", key) ∷ (codes "value", x) ∷ []) (λ s1. Well tt s1) (Rattle.run_world.specs.Part.given a s)) second)
      does

  pub all_as : (old new : W) (name : List ℕ) (m : PropertyMode) (params given : List Param) (ds : List Datum) (result : Result Unit (Failure RunFault)) → m ≡ mode.Parameters → given ≡ params
      → Doing reached replies (λ (u : Unit {0}). u) (λ place. property_set place name mode.Parameters given []) old new result
      → Doing reached replies (λ (u : Unit {0}). u) (λ place. property_set place name m params ds) old new result
  all_as old new name m params given ds value is same does = as_doing old new value
      (λ first_world origin s stands place a.
      ap (λ x. property_set place name x params ds (Rattle.run_world.specs.Part.given a s)) is
      ∙ ap (λ ps. property_set place name mode.Parameters ps [] (Rattle.run_world.specs.Part.given a s)) (sym same))
      does

  pub one_as : (old new : W) (name property parameter : List ℕ) (m : PropertyMode) (params given : List Param) (ds : List Datum) (result : Result Unit (Failure RunFault)) → m ≡ mode.Parameter property parameter → given ≡ params
      → Doing reached replies (λ (u : Unit {0}). u) (λ place. property_set place name (mode.Parameter property parameter) given []) old new result
      → Doing reached replies (λ (u : Unit {0}). u) (λ place. property_set place name m params ds) old new result
  one_as old new name property parameter m params given ds value is same does = as_doing old new value
      (λ first_world origin s stands place a.
      ap (λ x. property_set place name x params ds (Rattle.run_world.specs.Part.given a s)) is
      ∙ ap (λ ps. property_set place name (mode.Parameter property parameter) ps [] (Rattle.run_world.specs.Part.given a s)) (sym same))
      does
