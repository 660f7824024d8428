-- What the forms of tests and variables do with the values of their attributes, where what their bodies do is known.
use Rattle.std.proofs.Common.{◌≡◌, ℕ, Bool, true, false, List, [], ◌∷◌, codes, Some, None, Option, refl, sym, ap, ◌∙◌, true≢false}
use Rattle.el_ops.specs.Indexing.{or_null}
use Rattle.page_code.specs.declared.op.Op.TheVariants as op
use Rattle.page_code.specs.declared.operands.PropertyMode.TheVariants as mode
use Rattle.page_meaning.specs.Addresses.{written_or_kept}
use Rattle.page_meaning.specs.Attributes.{Coercion, table_of, value_at, text_in, text_at, truth_or}
use Rattle.page_meaning.specs.Context.{Served, Here, Deeper}
use Rattle.page_meaning.specs.Core.{given_or_body, set_or_remove, set_mean, set_entry_mean, property_replaced, assign_given, if_mean}
use Rattle.page_meaning.specs.Meaning.{is_test_true}
use Rattle.page_meaning.specs.Page.{Variable}
use Rattle.page_meaning.specs.State.{State}
use Rattle.page_meaning.specs.Variables.{assign, assign_variable, unassign_in, scope_or_page, look_up}
use Rattle.page_meaning.specs.Went.{Did, then_do, result_of}
use Rattle.page_table.specs.Act.{is_true}
use Rattle.page_table.specs.Operations.{leaving_none}
use Rattle.page_table.specs.Program.{Stored, Serving}
use Rattle.page_table.specs.Seat.{Seat}
use Rattle.pg_text.specs.declared.place.Place.{Place}
use Rattle.pg_value.specs.Datum as datum
use Rattle.pg_value.specs.Datum.{Datum, null, truth, number, text, rec}
use Rattle.pg_value.specs.declared.scope.Scope.{Scope}
use Rattle.code_forms.specs.Forms.{Form, both, does, arranged, kept, chosen}
use Rattle.code_lowering.specs.Lowering.{has, scoped, sets, removes, sets_given, kept_in, value_or_body, with_value_or_body, sets_or_removes}
use Rattle.code_lowering.proofs.Arranged.{last_at, Distinct}
use Rattle.code_lowering.proofs.Givens.{value_given, value_there, value_missing, text_of_none, truth_of_none, arranged_given}
use Rattle.code_lowering.proofs.Goes.{Goes, Runs0, Runs1, is_present, nothing_goes, both_goes, goes_as, above_goes, does_none, then_runs, kept_goes, chosen_goes, where_null_goes}
use Rattle.code_lowering.proofs.Joins.{then_well, maps_goes}
use Rattle.code_lowering.proofs.Parts.{onto}
use Rattle.code_lowering.proofs.Trees.{SeatOf, serving_by, constant_puts}
use Rattle.code_lowering.proofs.Values.{Given, given_goes}

-- a value that isn't null is set
set_present : (place : Place) (sc : Option Scope) (name : List ℕ) (d : Datum) (s : State) → is_present d ≡ true
    → set_or_remove place (record { name = name; scope = sc }) d s ≡ assign place (scope_or_page sc) name d s
set_present place sc name null s h = absurd (true≢false (sym h))
set_present place sc name (truth b) s h = refl
set_present place sc name (number n) s h = refl
set_present place sc name (text t) s h = refl
set_present place sc name (datum.list items) s h = refl
set_present place sc name (rec es) s h = refl

set_absent : (place : Place) (sc : Option Scope) (name : List ℕ) (d : Datum) (s : State) → is_present d ≡ false
    → set_or_remove place (record { name = name; scope = sc }) d s ≡ unassign_in place sc name s
set_absent place sc name null s h = refl
set_absent place sc name (truth b) s h = absurd (true≢false h)
set_absent place sc name (number n) s h = absurd (true≢false h)
set_absent place sc name (text t) s h = absurd (true≢false h)
set_absent place sc name (datum.list items) s h = absurd (true≢false h)
set_absent place sc name (rec es) s h = absurd (true≢false h)

module _ (served : Served) (stored : List ℕ → Stored) (deep : ℕ → Deeper) (Calls : ℕ → Type 0) (here : Here) (seat : Seat) (same : SeatOf here seat) where
  abbrev serving : Serving
  serving = serving_by served stored

  abbrev pub Runs : {n : ℕ} → Form n 0 → List Datum → (Deeper → State → Did) → Type 0
  Runs f from m = Runs0 serving seat deep Calls f from m

  pub sets_goes : (place : Place) (x : Variable) (d : Datum) → is_present d ≡ true → Runs (sets place x) (d ∷ []) (λ dp s. assign_variable place x d s)
  sets_goes place x d h =
      does_none (op.SetVar (scoped (scope_or_page x.scope) x.name)) place (d ∷ []) (λ s. assign_variable place x d s) refl
      (λ s. ap leaving_none (set_present place (Some (scope_or_page x.scope)) x.name d s h))

  pub sets_given_goes : (place : Place) (x : Option Variable) (d : Datum) → is_present d ≡ true → Runs (sets_given place x d) [] (λ dp s. assign_given place x d s)
  sets_given_goes place None d h = nothing_goes {st = λ (u : Unit {0}). []} tt
  sets_given_goes place (Some x) d h = then_runs (constant_puts served stored deep Calls here seat same place d) (sets_goes place x d h)

  pub removes_goes : (place : Place) (sc : Option Scope) (name : List ℕ) → Runs (removes place sc name) [] (λ dp s. unassign_in place sc name s)
  removes_goes place (Some sc) name = does_none (op.RemoveVar (scoped sc name)) place [] (λ s. unassign_in place (Some sc) name s) refl (λ s. refl)
  removes_goes place None name = does_none (op.RemoveAll name) place [] (λ s. unassign_in place None name s) refl (λ s. refl)

  -- null removes
  pub sets_or_removes_goes : (place : Place) (sc : Option Scope) (name : List ℕ) (d : Datum)
      → Runs (sets_or_removes place sc name) (d ∷ []) (λ dp s. set_or_remove place (record { name = name; scope = sc }) d s)
  sets_or_removes_goes place (Some sc) name d = does_none (op.SetVar (scoped sc name)) place (d ∷ []) (λ s. set_or_remove place (record { name = name; scope = Some sc }) d s) refl (λ s. refl)
  sets_or_removes_goes place None name d =
      where_null_goes place d
      (λ h. goes_as (λ dp s. sym (set_absent place None name d s h)) (removes_goes place None name))
      (λ h. goes_as (λ dp s. sym (set_present place None name d s h)) (sets_goes place (record { name = name; scope = None }) d h))

  -- a test, and the one or the other part
  pub tests_goes : {f g : Form 0 0} (m : Bool → Deeper → State → Did) (place : Place) (c : List ℕ → Coercion) (names : List (List ℕ)) (ds : List Datum) → Given c names ds
      → Runs f [] (m true) → Runs g [] (m false)
      → Runs (both (arranged (codes "test" ∷ []) names place) (chosen f g place)) (onto ds []) (λ dp s. m (is_test_true (table_of names ds)) dp s)
  tests_goes {f = f} {g = g} m place c names ds given hf hg =
      let d = or_null (last_at (codes "test") given.named) in
      let test : is_test_true (table_of names ds) ≡ is_true d = ap (truth_or false) (value_given c names ds given (codes "test")) ∙ truth_of_none (last_at (codes "test") given.named) in
      goes_as (λ dp s. ap (λ b. m b dp s) (sym test))
      (then_runs (arranged_given place (codes "test" ∷ []) (tt, tt) c names ds given)
      (chosen_goes place d (λ e. goes_as (λ dp s. ap (λ b. m b dp s) (sym e)) hf) (λ e. goes_as (λ dp s. ap (λ b. m b dp s) (sym e)) hg)))

  -- `c:if`
  pub if_goes : {f : Form 0 0} {m : Deeper → State → Did} (place : Place) (x : Option Variable) (c : List ℕ → Coercion) (names : List (List ℕ)) (ds : List Datum) → Given c names ds → Runs f [] m
      → Runs (both (arranged (codes "test" ∷ []) names place) (chosen (both (sets_given place x (truth true)) f) (sets_given place x (truth false)) place)) (onto ds [])
      (λ dp s. if_mean place x (is_test_true (table_of names ds)) (m dp) s)
  if_goes {f = f} {m = m} place x c names ds given h =
      tests_goes (λ b dp s. if_mean place x b (m dp) s) place c names ds given
      (both_goes (sets_given place x (truth true)) f (sets_given_goes place x (truth true) refl) (λ u. h))
      (goes_as (λ dp s. sym (then_well (assign_given place x (truth false) s))) (sets_given_goes place x (truth false) refl))

  -- a value that was given, or else the trimmed body
  pub value_or_body_goes : {f : Form 0 0} {m : Deeper → State → Did} (place : Place) (c : List ℕ → Coercion) (names : List (List ℕ)) (ds : List Datum) → Given c names ds → Runs f [] m
      → Runs1 serving seat deep Calls (value_or_body place (has (codes "value") names) names f) (onto ds []) (λ dp s. given_or_body place (value_at (codes "value") (table_of names ds)) (m dp) s)
  value_or_body_goes {f = f} {m = m} place c names ds given h = go (has (codes "value") names) refl
    where
      go : (b : Bool) → has (codes "value") names ≡ b
          → Runs1 serving seat deep Calls (value_or_body place b names f) (onto ds []) (λ dp s. given_or_body place (value_at (codes "value") (table_of names ds)) (m dp) s)
      go true e =
          goes_as (λ dp s. ap (λ v. given_or_body place v (m dp) s) (sym (value_there c names ds given (codes "value") e)))
          (maps_goes (λ u. or_null (last_at (codes "value") given.named)) (λ u. refl) (arranged_given place (codes "value" ∷ []) (tt, tt) c names ds given))
      go false e =
          goes_as (λ dp s. ap (λ v. given_or_body place v (m dp) s) (sym (value_missing c names ds given (codes "value") e)))
          (then_runs (arranged_given place [] tt c names ds given) (given_goes served stored deep Calls here seat same place true h))

  -- the same above another value
  pub pair_goes : {f : Form 0 0} {m : Deeper → State → Did} (place : Place) (first : List ℕ) → Distinct (first ∷ codes "value" ∷ [])
      → (c : List ℕ → Coercion) (names : List (List ℕ)) (ds : List Datum) (given : Given c names ds) → Runs f [] m
      → Goes serving seat deep Calls (with_value_or_body place first (has (codes "value") names) names f) (onto ds []) (λ d. d ∷ or_null (last_at first given.named) ∷ [])
      (λ dp s. given_or_body place (value_at (codes "value") (table_of names ds)) (m dp) s)
  pair_goes {f = f} {m = m} place first distinct c names ds given h = go (has (codes "value") names) refl
    where
      go : (b : Bool) → has (codes "value") names ≡ b
          → Goes serving seat deep Calls (with_value_or_body place first b names f) (onto ds []) (λ d. d ∷ or_null (last_at first given.named) ∷ [])
          (λ dp s. given_or_body place (value_at (codes "value") (table_of names ds)) (m dp) s)
      go true e =
          goes_as (λ dp s. ap (λ v. given_or_body place v (m dp) s) (sym (value_there c names ds given (codes "value") e)))
          (maps_goes (λ u. or_null (last_at (codes "value") given.named)) (λ u. refl) (arranged_given place (first ∷ codes "value" ∷ []) distinct c names ds given))
      go false e =
          goes_as (λ dp s. ap (λ v. given_or_body place v (m dp) s) (sym (value_missing c names ds given (codes "value") e)))
          (then_runs (arranged_given place (first ∷ []) (tt, tt) c names ds given)
          (above_goes 1 (or_null (last_at first given.named) ∷ []) (given_goes served stored deep Calls here seat same place true h)))

  -- `c:set` of a variable
  pub set_goes : {f : Form 0 0} {m : Deeper → State → Did} (place : Place) (x : Variable) (c : List ℕ → Coercion) (names : List (List ℕ)) (ds : List Datum) → Given c names ds → Runs f [] m
      → Runs (both (value_or_body place (has (codes "value") names) names f) (sets_or_removes place x.scope x.name)) (onto ds []) (λ dp s. set_mean place x (table_of names ds) (m dp) s)
  set_goes place x c names ds given h = both_goes _ (sets_or_removes place x.scope x.name) (value_or_body_goes place c names ds given h) (λ d. sets_or_removes_goes place x.scope x.name d)

  -- `c:set` of an entry
  pub set_entry_goes : {f : Form 0 0} {m : Deeper → State → Did} (place : Place) (target : List ℕ) (c : List ℕ → Coercion) (names : List (List ℕ)) (ds : List Datum) → Given c names ds → Runs f [] m
      → Runs (both (with_value_or_body place (codes "property") (has (codes "value") names) names f) (does (op.SetProperty target mode.Entry) place)) (onto ds [])
      (λ dp s. set_entry_mean place target (table_of names ds) (m dp) s)
  set_entry_goes place target c names ds given h =
      let r = last_at (codes "property") given.named in
      let name : text_in (Some (or_null r)) ≡ text_at (codes "property") (table_of names ds) = sym (text_of_none r) ∙ sym (ap text_in (value_given c names ds given (codes "property"))) in
      both_goes _ (does (op.SetProperty target mode.Entry) place) (pair_goes place (codes "property") ((refl, tt), (tt, tt)) c names ds given h)
      (λ d. does_none (op.SetProperty target mode.Entry) place (or_null r ∷ d ∷ [])
      (λ s. then_do (look_up place target s) (λ p s2. then_do (result_of place (property_replaced (text_at (codes "property") (table_of names ds)) d p.1) s2)
      (λ q s3. assign place p.0 target q s3))) refl
      (λ s. ap (λ n. leaving_none (then_do (look_up place target s) (λ p s2. then_do (result_of place (property_replaced n d p.1) s2) (λ q s3. assign place p.0 target q s3)))) name))

  -- what a part writes, or its text in a variable
  pub kept_in_goes : {n : ℕ} {f : Form n 0} {from : List Datum} {m : Deeper → State → Did} (place : Place) (x : Option Variable) → Runs f from m
      → Runs (kept_in place x f) from (λ dp s. written_or_kept place x (m dp) s)
  kept_in_goes place None h = h
  kept_in_goes {f = f} place (Some x) h = both_goes (kept f place) (sets place x) (kept_goes place h) (λ t. sets_goes place x (text t) refl)
