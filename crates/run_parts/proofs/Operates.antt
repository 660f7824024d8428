-- What an operation leaves of a part that it does.
use Rattle.std.proofs.Common.{◌≡◌, ◌≢◌, ◌<◌, ℕ, length, get_or, arith, List, [], ◌∷◌, Result, Ok, Err, refl, sym, ap, ◌∙◌, subst, drop}
use Rattle.std.specs.Prelude.{Option, Some, None, map, slice_get, IsErrAnd}
use Rattle.std.specs.Str.{str_to_ascii_lowercase}
use Rattle.el_coercion.specs.Text.{made, text_of}
use Rattle.el_ops.specs.Operands.{answered}
use Rattle.el_ops.specs.Indexing.{or_null}
use Rattle.jstl_functions.specs.Functions.{and_then}
use Rattle.page_code.specs.declared.op.Op.{Op}
use Rattle.page_code.specs.declared.op.Op.TheVariants as op
use Rattle.page_code.specs.declared.operands.HeaderObject.{HeaderObject}
use Rattle.page_code.specs.declared.operands.Implicit.{Implicit}
use Rattle.page_code.specs.declared.operands.PropertyMode.{PropertyMode}
use Rattle.page_code.specs.declared.operands.ScopedName.{ScopedName}
use Rattle.page_code.specs.declared.operands.HeaderObject.TheVariants as header
use Rattle.run_world.specs.Origin.{Origin}
use Rattle.run_world.specs.Part.{given, Doing}
use Rattle.run_values.specs.Objects.{header_answer, header_entries}
use Rattle.run_parts.specs.Operations.{IsComputed, computed}
use Rattle.run_parts.specs.Answers.{left_by, none_of, one_of}
use Rattle.page_meaning.proofs.Growing.{same}
use Rattle.run_world.proofs.Adds.{Adds, assign_adds, unassign_adds}
use Rattle.run_world.proofs.Parts.{as_doing, fail_doing, then_doing, well_doing}
use Rattle.page_meaning.specs.Addresses.{url_with}
use Rattle.page_meaning.specs.Core.{set_or_remove}
use Rattle.page_meaning.specs.Implicit.{entry_of_object, entry_under}
use Rattle.page_meaning.specs.State.{State}
use Rattle.page_meaning.specs.Variables.{assign, unassign}
use Rattle.page_meaning.specs.Went.{Did, Went, Well, then_do, result_of}
use Rattle.page_table.specs.Operands.{header_of}
use Rattle.page_table.specs.Operations.{leaving_none, leaving_one, operation, text_at, value_at, behind_first, params_in, joined}
use Rattle.page_table.specs.Program.{Serving, served_of}
use Rattle.page_table.specs.Seat.{Seat}
use Rattle.pg_text.specs.Failure.{AnswersAs}
use Rattle.pg_text.specs.declared.failure.Failure.{Failure}
use Rattle.pg_text.specs.declared.failure.Failure.TheVariants as failure
use Rattle.pg_text.specs.declared.place.Place.{Place}
use Rattle.pg_value.specs.Attrs.{entry_at}
use Rattle.pg_value.specs.Datum as datum
use Rattle.pg_value.specs.Datum.{Datum, null, truth, number, text, rec}
use Rattle.pg_value.specs.Value.{datum_of}
use Rattle.pg_value.specs.declared.fault.RunFault.{RunFault}
use Rattle.pg_value.specs.declared.scope.Scope.{Scope}
use Rattle.pg_value.specs.declared.value.Value.{Value}
use Rattle.site_words.specs.Law.{Answer}

module _ {W : Type 0} {reached : W → Origin → W → State → Type 0} {replies : W → List Answer} where
  pub none_doing : {part : Place → State → Did} (old new : W) (done : Result Unit (Failure RunFault)) → Doing reached replies (λ u. u) part old new done
      → Doing reached replies left_by (λ place s. leaving_none (part place s)) old new (none_of done)
  none_doing old new (Ok u) does = then_doing (λ place u s. Well [] s) old new new u (Ok None) does (well_doing new None)
  none_doing old new (Err e) does = fail_doing (λ place u s. Well [] s) old new e (λ place u s. same s) does

  pub one_doing : {part : Place → State → Went Datum} (old new : W) (made : Result Value (Failure RunFault)) → Doing reached replies datum_of part old new made
      → Doing reached replies left_by (λ place s. leaving_one (part place s)) old new (one_of made)
  one_doing old new (Ok v) does = then_doing (λ place d s. Well (d ∷ []) s) old new new v (Ok (Some v)) does (well_doing new (Some v))
  one_doing old new (Err e) does = fail_doing (λ place d s. Well (d ∷ []) s) old new e (λ place d s. same s) does

-- an operation that makes its value of values alone gives the table's answer
answered_text : (place : Place) (r : Result (List ℕ) RunFault) (s : State) → then_do (result_of place r s) (λ t s1. Well (text t) s1) ≡ result_of place (answered text r) s
answered_text place (Ok t) s = refl
answered_text place (Err f) s = refl

pub computed_is : (serving : Serving) (seat : Seat) (place : Place) (o : Op) (ds : List Datum) (s : State) → IsComputed o → operation serving seat place o ds s ≡ leaving_one (result_of place (computed o ds) s)
computed_is serving seat place (op.Const v) ds s is = refl
computed_is serving seat place op.Index ds s is = refl
computed_is serving seat place (op.Unary o) ds s is = refl
computed_is serving seat place (op.Binary o) ds s is = refl
computed_is serving seat place (op.Coerce c) ds s is = refl
computed_is serving seat place (op.MakeList n) ds s is = refl
computed_is serving seat place (op.MakeMap n) ds s is = refl
computed_is serving seat place (op.Concat n) ds s is = ap leaving_one (answered_text place (made (joined ds)) s)
computed_is serving seat place (op.Call f) ds s is = refl
computed_is serving seat place (op.Url n) ds s is = ap leaving_one (answered_text place (url_with (text_at 0 ds) (params_in (behind_first ds))) s)
computed_is serving seat place (op.Write t) ds s is = absurd is
computed_is serving seat place op.Put ds s is = absurd is
computed_is serving seat place op.PutEscaped ds s is = absurd is
computed_is serving seat place (op.Visit n) ds s is = absurd is
computed_is serving seat place (op.Find name) ds s is = absurd is
computed_is serving seat place (op.Implicit object) ds s is = absurd is
computed_is serving seat place (op.HeaderIndex object) ds s is = absurd is
computed_is serving seat place (op.ScopeIndex scope) ds s is = absurd is
computed_is serving seat place op.Pop ds s is = absurd is
computed_is serving seat place (op.SetVar x) ds s is = absurd is
computed_is serving seat place (op.RemoveVar x) ds s is = absurd is
computed_is serving seat place (op.RemoveAll name) ds s is = absurd is
computed_is serving seat place (op.SetProperty name m) ds s is = absurd is
computed_is serving seat place (op.GetProperty name) ds s is = absurd is

module _ {W : Type 0} {reached : W → Origin → W → State → Type 0} {replies : W → List Answer} (serving : Serving) (seat : Seat) (o this : Op) (ds : List Datum) (old new : W) (result : Result (Option Value) (Failure RunFault))
    (is : o ≡ this) where
  -- what a call did of an operation that leaves no value
  pub op_none : {part : Place → State → Did} (done : Result Unit (Failure RunFault)) → result ≡ none_of done → ((place : Place) (s : State) → operation serving seat place this ds s ≡ leaving_none (part place s))
      → Doing reached replies (λ u. u) part old new done → Doing reached replies left_by (λ place. operation serving seat place o ds) old new result
  op_none {part} done e same does =
      as_doing {part = λ place. operation serving seat place o ds} {other = λ place s. leaving_none (part place s)} old new result
      (λ first origin s stands place a. ap (λ x. operation serving seat place x ds (given a s)) is ∙ same place (given a s))
      (subst (λ r. Doing reached replies left_by (λ place s. leaving_none (part place s)) old new r) (sym e) (none_doing old new done does))

  -- of one that leaves its value
  pub op_one : {part : Place → State → Went Datum} (made : Result Value (Failure RunFault)) → result ≡ one_of made → ((place : Place) (s : State) → operation serving seat place this ds s ≡ leaving_one (part place s))
      → Doing reached replies datum_of part old new made → Doing reached replies left_by (λ place. operation serving seat place o ds) old new result
  op_one {part} made e same does =
      as_doing {part = λ place. operation serving seat place o ds} {other = λ place s. leaving_one (part place s)} old new result
      (λ first origin s stands place a. ap (λ x. operation serving seat place x ds (given a s)) is ∙ same place (given a s))
      (subst (λ r. Doing reached replies left_by (λ place s. leaving_one (part place s)) old new r) (sym e) (one_doing old new made does))

-- the values that an operation takes, as it sees them
pub first_is : (xs : List Value) (v : Value) → 0 < length xs → v ≡ get_or xs 0 v → slice_get (map datum_of xs) 0 ≡ Some (datum_of v)
first_is [] v h e = absurd (omega (arith, h))
first_is (x ∷ xs) v h e = ap (λ y. Some (datum_of y)) (sym e)

pub second_is : (xs : List Value) (v : Value) → 1 < length xs → v ≡ get_or xs 1 v → slice_get (map datum_of xs) 1 ≡ Some (datum_of v)
second_is [] v h e = absurd (omega (arith, h))
second_is (x ∷ []) v h e = absurd (omega (arith, h))
second_is (x ∷ y ∷ xs) v h e = ap (λ z. Some (datum_of z)) (sym e)

-- the entry of an object of the request's fields
pub header_is : (serving : Serving) (seat : Seat) (place : Place) (which : HeaderObject) (ds : List Datum) (s : State)
    → operation serving seat place (op.HeaderIndex which) ds s ≡ leaving_one (result_of place (header_answer serving.request which (value_at 0 ds)) s)
header_is serving seat place which ds s = ap leaving_one (go which (value_at 0 ds))
  where
    under : (which : HeaderObject) (r : Result (List ℕ) RunFault) → then_do (result_of place r s) (λ k s1. entry_under (served_of serving) place (header_of which) k s1)
        ≡ result_of place (and_then r (λ key. Ok (or_null (entry_at (str_to_ascii_lowercase key) (header_entries serving.request which))))) s
    under header.Header (Ok k) = refl
    under header.HeaderValues (Ok k) = refl
    under which (Err f) = refl

    go : (which : HeaderObject) (d : Datum) → entry_of_object (served_of serving) place (header_of which) d s ≡ result_of place (header_answer serving.request which d) s
    go which null = refl
    go which (truth b) = under which (text_of (truth b))
    go which (number n) = under which (text_of (number n))
    go which (text t) = under which (text_of (text t))
    go which (datum.list is) = under which (text_of (datum.list is))
    go which (rec es) = under which (text_of (rec es))

-- a variable that is set: null removes it
pub set_some : (place : Place) (name : List ℕ) (sc : Scope) (d : Datum) (s : State) → d ≢ null → set_or_remove place (record { name = name; scope = Some sc }) d s ≡ assign place sc name d s
set_some place name sc null s some = absurd (some refl)
set_some place name sc (truth b) s some = refl
set_some place name sc (number n) s some = refl
set_some place name sc (text t) s some = refl
set_some place name sc (datum.list is) s some = refl
set_some place name sc (rec es) s some = refl

pub setting_adds : (place : Place) (name : List ℕ) (sc : Scope) (d : Datum) → Adds (set_or_remove place (record { name = name; scope = Some sc }) d)
setting_adds place name sc null s = unassign_adds place sc name s
setting_adds place name sc (truth b) s = assign_adds place sc name (truth b) s
setting_adds place name sc (number n) s = assign_adds place sc name (number n) s
setting_adds place name sc (text t) s = assign_adds place sc name (text t) s
setting_adds place name sc (datum.list is) s = assign_adds place sc name (datum.list is) s
setting_adds place name sc (rec es) s = assign_adds place sc name (rec es) s

module _ {W : Type 0} {reached : W → Origin → W → State → Type 0} {replies : W → List Answer} where
  pub popped : (serving : Serving) (seat : Seat) (o : Op) (ds : List Datum) (w : W) → o ≡ op.Pop → Doing reached replies left_by (λ place. operation serving seat place o ds) w w (Ok None)
  popped serving seat o ds w is = as_doing w w (Ok None) (λ first origin s stands place a. ap (λ x. operation serving seat place x ds (given a s)) is) (well_doing w None)

  pub null_removes : (old new : W) (name : List ℕ) (sc : Scope) (d : Datum) (result : Result Unit (Failure RunFault)) → d ≡ null
      → Doing reached replies (λ (u : Unit {0}). u) (λ place. unassign place sc name) old new result
      → Doing reached replies (λ (u : Unit {0}). u) (λ place. set_or_remove place (record { name = name; scope = Some sc }) d) old new result
  null_removes old new name sc d result e does = as_doing old new result (λ first origin s stands place a. ap (λ x. set_or_remove place (record { name = name; scope = Some sc }) x (given a s)) e) does

  pub some_sets : (old new : W) (name : List ℕ) (sc : Scope) (d : Datum) (result : Result Unit (Failure RunFault)) → d ≢ null
      → Doing reached replies (λ (u : Unit {0}). u) (λ place. assign place sc name d) old new result
      → Doing reached replies (λ (u : Unit {0}). u) (λ place. set_or_remove place (record { name = name; scope = Some sc }) d) old new result
  some_sets old new name sc d result some does = as_doing old new result (λ first origin s stands place a. set_some place name sc d (given a s) some) does

-- the operations that are none of these
pub computed_else : (o : Op) → ((t : List ℕ) → o ≡ op.Write t → ⊥) → (o ≡ op.Put → ⊥) → (o ≡ op.PutEscaped → ⊥) → ((n : ℕ) → o ≡ op.Visit n → ⊥) → (o ≡ op.Pop → ⊥) → ((x : ScopedName) → o ≡ op.SetVar x → ⊥) → ((x : ScopedName) → o ≡ op.RemoveVar x → ⊥) → ((name : List ℕ) → o ≡ op.RemoveAll name → ⊥) → ((name : List ℕ) (m : PropertyMode) → o ≡ op.SetProperty name m → ⊥) → ((name : List ℕ) → o ≡ op.GetProperty name → ⊥) → ((name : List ℕ) → o ≡ op.Find name → ⊥) → ((object : Implicit) → o ≡ op.Implicit object → ⊥) → ((object : HeaderObject) → o ≡ op.HeaderIndex object → ⊥) → ((scope : Scope) → o ≡ op.ScopeIndex scope → ⊥)
    → IsComputed o
computed_else (op.Write t) write put escapes visit pops sets removes removes_all sets_property gets finds implicit header_index scope_index = absurd (write t refl)
computed_else op.Put write put escapes visit pops sets removes removes_all sets_property gets finds implicit header_index scope_index = absurd (put refl)
computed_else op.PutEscaped write put escapes visit pops sets removes removes_all sets_property gets finds implicit header_index scope_index = absurd (escapes refl)
computed_else (op.Visit n) write put escapes visit pops sets removes removes_all sets_property gets finds implicit header_index scope_index = absurd (visit n refl)
computed_else op.Pop write put escapes visit pops sets removes removes_all sets_property gets finds implicit header_index scope_index = absurd (pops refl)
computed_else (op.SetVar x) write put escapes visit pops sets removes removes_all sets_property gets finds implicit header_index scope_index = absurd (sets x refl)
computed_else (op.RemoveVar x) write put escapes visit pops sets removes removes_all sets_property gets finds implicit header_index scope_index = absurd (removes x refl)
computed_else (op.RemoveAll name) write put escapes visit pops sets removes removes_all sets_property gets finds implicit header_index scope_index = absurd (removes_all name refl)
computed_else (op.SetProperty name m) write put escapes visit pops sets removes removes_all sets_property gets finds implicit header_index scope_index = absurd (sets_property name m refl)
computed_else (op.GetProperty name) write put escapes visit pops sets removes removes_all sets_property gets finds implicit header_index scope_index = absurd (gets name refl)
computed_else (op.Find name) write put escapes visit pops sets removes removes_all sets_property gets finds implicit header_index scope_index = absurd (finds name refl)
computed_else (op.Implicit object) write put escapes visit pops sets removes removes_all sets_property gets finds implicit header_index scope_index = absurd (implicit object refl)
computed_else (op.HeaderIndex object) write put escapes visit pops sets removes removes_all sets_property gets finds implicit header_index scope_index = absurd (header_index object refl)
computed_else (op.ScopeIndex scope) write put escapes visit pops sets removes removes_all sets_property gets finds implicit header_index scope_index = absurd (scope_index scope refl)
computed_else (op.Const v) write put escapes visit pops sets removes removes_all sets_property gets finds implicit header_index scope_index = tt
computed_else op.Index write put escapes visit pops sets removes removes_all sets_property gets finds implicit header_index scope_index = tt
computed_else (op.Unary o) write put escapes visit pops sets removes removes_all sets_property gets finds implicit header_index scope_index = tt
computed_else (op.Binary o) write put escapes visit pops sets removes removes_all sets_property gets finds implicit header_index scope_index = tt
computed_else (op.Coerce c) write put escapes visit pops sets removes removes_all sets_property gets finds implicit header_index scope_index = tt
computed_else (op.MakeList n) write put escapes visit pops sets removes removes_all sets_property gets finds implicit header_index scope_index = tt
computed_else (op.MakeMap n) write put escapes visit pops sets removes removes_all sets_property gets finds implicit header_index scope_index = tt
computed_else (op.Concat n) write put escapes visit pops sets removes removes_all sets_property gets finds implicit header_index scope_index = tt
computed_else (op.Call f) write put escapes visit pops sets removes removes_all sets_property gets finds implicit header_index scope_index = tt
computed_else (op.Url n) write put escapes visit pops sets removes removes_all sets_property gets finds implicit header_index scope_index = tt

-- what is made of values alone
pub computes : (o this : Op) (ds : List Datum) (result : Result Value (Failure RunFault)) → o ≡ this → AnswersAs datum_of (computed this ds) result → AnswersAs datum_of (computed o ds) result
computes o this ds result is answers = subst (λ x. AnswersAs datum_of (computed x ds) result) (sym is) answers

pub first_at : (xs : List Value) (v : Value) → 0 < length xs → v ≡ get_or xs 0 v → datum_of v ≡ value_at 0 (map datum_of xs)
first_at xs v h e = sym (ap or_null (first_is xs v h e))

pub second_at : (xs : List Value) (v : Value) → 1 < length xs → v ≡ get_or xs 1 v → datum_of v ≡ value_at 1 (map datum_of xs)
second_at xs v h e = sym (ap or_null (second_is xs v h e))

pub behind_is : (xs : List Value) → behind_first (map datum_of xs) ≡ map datum_of (drop 1 xs)
behind_is [] = refl
behind_is (x ∷ xs) = refl

-- a text that was made, or its fault
pub text_made : (o this : Op) (ds : List Datum) (t : List ℕ) (expected : Result (List ℕ) RunFault) → o ≡ this → computed this ds ≡ answered text expected → expected ≡ Ok t → computed o ds ≡ Ok (text t)
text_made o this ds t expected is same e = ap (λ x. computed x ds) is ∙ same ∙ ap (answered text) e

pub text_failed : (o this : Op) (ds : List Datum) (expected : Result (List ℕ) RunFault) (e : Failure RunFault) (result : Result Value (Failure RunFault)) → o ≡ this → computed this ds ≡ answered text expected
    → IsErrAnd result (λ f. f ≡ e) → AnswersAs (λ (t : List ℕ). t) expected (Err e) → AnswersAs datum_of (computed o ds) result
text_failed o this ds expected e (Ok v) is same err answers = absurd err
text_failed o this ds expected (failure.Fault f) (Err g) is same err answers =
    subst (λ g. AnswersAs datum_of (computed o ds) (Err g)) (sym err) (ap (λ x. computed x ds) is ∙ same ∙ ap (answered text) answers)
text_failed o this ds expected failure.NoMemory (Err g) is same err answers = subst (λ g. AnswersAs datum_of (computed o ds) (Err g)) (sym err) tt
