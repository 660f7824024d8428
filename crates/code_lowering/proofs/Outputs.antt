-- What the forms of outputs do with the values of their attributes, where what their bodies do is known.
use Rattle.std.proofs.Common.{◌≡◌, ℕ, Bool, true, false, List, [], ◌∷◌, ◌++◌, codes, Some, None, Option, is_some, Result, Ok, Err, refl, sym, ap, ◌∙◌, subst, true≢false}
use Rattle.el_coercion.specs.Text.{text_of}
use Rattle.el_coercion.specs.Truth.{truth_of}
use Rattle.el_ops.specs.Indexing.{or_null}
use Rattle.el_ops.specs.Operands.{answered}
use Rattle.jstl_functions.specs.Functions.{and_then}
use Rattle.page_code.specs.declared.op.Op.TheVariants as op
use Rattle.page_code.specs.declared.operands.Coercion.TheVariants as coercion
use Rattle.page_meaning.specs.Addresses.{url_mean}
use Rattle.page_meaning.specs.Attributes.{to_text, to_truth, coerced, table_of, text_in, truth_or, coercion_in}
use Rattle.page_meaning.specs.Beans.{get_property_mean, property_of}
use Rattle.page_meaning.specs.Bodies.{put_text, keeping, trimmed, shown_mean}
use Rattle.page_meaning.specs.Coercions.{out_coercions}
use Rattle.page_meaning.specs.Context.{Served, Here, Deeper}
use Rattle.page_meaning.specs.Core.{trimmed_body, text_or, escaped_if, out_mean}
use Rattle.page_meaning.specs.Page.{Variable}
use Rattle.page_meaning.specs.State.{State}
use Rattle.page_meaning.specs.Variables.{look_up}
use Rattle.page_meaning.specs.Went.{Did, Went, Well, then_do, result_of}
use Rattle.page_table.specs.Act.{is_true}
use Rattle.page_table.specs.Program.{Stored, Serving}
use Rattle.page_table.specs.Seat.{Seat}
use Rattle.pg_text.specs.Escape.{escaped}
use Rattle.pg_text.specs.declared.place.Place.{Place}
use Rattle.pg_value.specs.Datum as datum
use Rattle.pg_value.specs.Datum.{Datum, null, truth, number, text, rec}
use Rattle.pg_value.specs.declared.fault.RunFault.{RunFault}
use Rattle.code_lowering.specs.Expressions.{constant, coerces}
use Rattle.code_forms.specs.Forms.{Form, both, above, does, arranged, chosen, where_null}
use Rattle.code_lowering.specs.Lowering.{has, puts, puts_default, puts_body, out_wanted, out_form, url_put}
use Rattle.code_lowering.proofs.Arranged.{Named, last_at, wants, Distinct}
use Rattle.code_lowering.proofs.Givens.{value_given, has_given, some_of, none_of, arranged_given}
use Rattle.code_lowering.proofs.Goes.{Runs0, Runs1, is_present, both_goes, goes_as, starts_as, above_goes, does_one, does_none, then_runs, swapped_goes, chosen_goes, where_null_goes, well}
use Rattle.code_lowering.proofs.Joins.{then_same, then_then, then_well, answered_goes}
use Rattle.code_lowering.proofs.Parts.{onto}
use Rattle.code_lowering.proofs.Trees.{SeatOf, serving_by, constant_puts}
use Rattle.code_lowering.proofs.Values.{Given, CoercedTo, last_coerced, given_goes}
use Rattle.code_lowering.proofs.Actions.{sets_goes}

text_or_present : (d : Datum) (other : State → Went (List ℕ)) (s : State) → is_present d ≡ true → text_or (Some d) other s ≡ Well (text_in (Some d)) s
text_or_present null other s h = absurd (true≢false (sym h))
text_or_present (truth b) other s h = refl
text_or_present (number n) other s h = refl
text_or_present (text t) other s h = refl
text_or_present (datum.list items) other s h = refl
text_or_present (rec es) other s h = refl

text_or_absent : (r : Option Datum) (other : State → Went (List ℕ)) (s : State) → is_present (or_null r) ≡ false → text_or r other s ≡ other s
text_or_absent None other s h = refl
text_or_absent (Some null) other s h = refl
text_or_absent (Some (truth b)) other s h = absurd (true≢false h)
text_or_absent (Some (number n)) other s h = absurd (true≢false h)
text_or_absent (Some (text t)) other s h = absurd (true≢false h)
text_or_absent (Some (datum.list items)) other s h = absurd (true≢false h)
text_or_absent (Some (rec es)) other s h = absurd (true≢false h)

present_some : (r : Option Datum) → is_present (or_null r) ≡ true → r ≡ Some (or_null r)
present_some None h = absurd (true≢false (sym h))
present_some (Some d) h = refl

-- what was coerced to a text is one, and to a truth value
text_coerced : (d : Datum) → CoercedTo to_text d → (t : List ℕ) × (d ≡ text t)
text_coerced d h = go (text_of h.from) refl
  where
    go : (r : Result (List ℕ) RunFault) → text_of h.from ≡ r → (t : List ℕ) × (d ≡ text t)
    go (Ok t) e = let same : Ok (text t) ≡ Ok d = sym (ap (answered text) e) ∙ h.is in (t, cc)
    go (Err f) e = let same : Err f ≡ Ok d = sym (ap (answered text) e) ∙ h.is in absurd (cc)

truth_coerced : (d : Datum) → CoercedTo to_truth d → (b : Bool) × (d ≡ truth b)
truth_coerced d h = go (truth_of h.from) refl
  where
    go : (r : Result Bool RunFault) → truth_of h.from ≡ r → (b : Bool) × (d ≡ truth b)
    go (Ok b) e = let same : Ok (truth b) ≡ Ok d = sym (ap (answered truth) e) ∙ h.is in (b, cc)
    go (Err f) e = let same : Err f ≡ Ok d = sym (ap (answered truth) e) ∙ h.is in absurd (cc)

-- what is known of a value that may be there: how it was made, where it is
abbrev Known : {A : Type 0} → (A → Datum) → Bool → Option Datum → Type 0
Known {A = A} make true r = (a : A) × (r ≡ Some (make a))
Known make false r = r ≡ None

known_text : (r : Option Datum) (b : Bool) → is_some r ≡ b → ((d : Datum) → r ≡ Some d → CoercedTo to_text d) → Known text b r
known_text r true h c = let there = some_of r h in let t = text_coerced (or_null r) (c (or_null r) there) in (t.0, there ∙ ap Some t.1)
known_text r false h c = none_of r h

known_truth : (r : Option Datum) (b : Bool) → is_some r ≡ b → ((d : Datum) → r ≡ Some d → CoercedTo to_truth d) → Known truth b r
known_truth r true h c = let there = some_of r h in let t = truth_coerced (or_null r) (c (or_null r) there) in (t.0, there ∙ ap Some t.1)
known_truth r false h c = none_of r h

then_result_of : {A B C : Type 0} (place : Place) (r : Result A RunFault) (f : A → Result B RunFault) (k : B → State → Went C) (s : State)
    → then_do (result_of place r s) (λ a s1. then_do (result_of place (f a) s1) k) ≡ then_do (result_of place (and_then r f) s) k
then_result_of place (Ok a) f k s = refl
then_result_of place (Err fault) f k s = refl

module _ (served : Served) (stored : List ℕ → Stored) (deep : ℕ → Deeper) (Calls : ℕ → Type 0) (here : Here) (seat : Seat) (same : SeatOf here seat) where
  abbrev serving : Serving
  serving = serving_by served stored

  abbrev pub Runs : {n : ℕ} → Form n 0 → List Datum → (Deeper → State → Did) → Type 0
  Runs f from m = Runs0 serving seat deep Calls f from m

  -- a text that is written, escaped or not
  put_goes : (place : Place) (d : Datum) → Runs (does op.Put place) (d ∷ []) (λ dp s. put_text place (text_in (Some d)) s)
  put_goes place d = does_none op.Put place (d ∷ []) (λ s. put_text place (text_in (Some d)) s) refl (λ s. refl)

  put_escaped_goes : (place : Place) (d : Datum) → Runs (does op.PutEscaped place) (d ∷ []) (λ dp s. put_text place (escaped (text_in (Some d))) s)
  put_escaped_goes place d = does_none op.PutEscaped place (d ∷ []) (λ s. put_text place (escaped (text_in (Some d))) s) refl (λ s. refl)

  -- what says whether a text is escaped, where that was given
  abbrev pub under : (escape : Bool) → Datum → List Datum
  under true v = v ∷ []
  under false v = []

  abbrev pub flag : (escape : Bool) → Datum → Bool
  flag true v = is_true v
  flag false v = true

  chosen_put : (place : Place) (v d : Datum) → Runs (chosen (does op.PutEscaped place) (does op.Put place) place) (v ∷ d ∷ []) (λ dp s. put_text place (escaped_if (is_true v) (text_in (Some d))) s)
  chosen_put place v d =
      chosen_goes place v (λ e. goes_as (λ dp s. ap (λ b. put_text place (escaped_if b (text_in (Some d))) s) (sym e)) (put_escaped_goes place d))
      (λ e. goes_as (λ dp s. ap (λ b. put_text place (escaped_if b (text_in (Some d))) s) (sym e)) (put_goes place d))

  puts_goes : (place : Place) (e : Bool) (v d : Datum) → Runs (puts place e) (d ∷ under e v) (λ dp s. put_text place (escaped_if (flag e v) (text_in (Some d))) s)
  puts_goes place true v d = then_runs (swapped_goes place d v) (chosen_put place v d)
  puts_goes place false v d = put_escaped_goes place d

  -- the trimmed body written
  trimmed_text : (place : Place) (part : State → Did) (go : List ℕ → State → Did) (s : State)
      → then_do (then_do (keeping place part s) (λ t s1. Well (text (trimmed t)) s1)) (λ d s1. go (text_in (Some d)) s1) ≡ then_do (trimmed_body place part s) go
  trimmed_text place part go s = then_then (keeping place part s) _ _ ∙ sym (then_then (keeping place part s) _ _)

  puts_body_goes : {f : Form 0 0} {m : Deeper → State → Did} (place : Place) (e : Bool) (v : Datum) → Runs f [] m
      → Runs (puts_body place e f) (under e v) (λ dp s. then_do (trimmed_body place (m dp) s) (λ t s1. put_text place (escaped_if (flag e v) t) s1))
  puts_body_goes {m = m} place true v h =
      goes_as (λ dp s. trimmed_text place (m dp) (λ t s1. put_text place (escaped_if (is_true v) t) s1) s)
      (both_goes _ (puts place true) (above_goes 1 (v ∷ []) (given_goes served stored deep Calls here seat same place true h)) (λ d. puts_goes place true v d))
  puts_body_goes {m = m} place false v h =
      goes_as (λ dp s. trimmed_text place (m dp) (λ t s1. put_text place (escaped t) s1) s)
      (both_goes _ (puts place false) (given_goes served stored deep Calls here seat same place true h) (λ d. puts_goes place false v d))

  puts_default_goes : (place : Place) (e : Bool) (v d : Datum) → Runs (puts_default place e) (under e v ++ d ∷ []) (λ dp s. put_text place (escaped_if (flag e v) (text_in (Some d))) s)
  puts_default_goes place true v d = chosen_put place v d
  puts_default_goes place false v d = put_escaped_goes place d

  pop_goes : (place : Place) (d : Datum) → Runs (does op.Pop place) (d ∷ []) (λ dp s. well s)
  pop_goes place d = does_none op.Pop place (d ∷ []) (λ s. well s) refl (λ s. refl)

  -- the value or else another text, written
  abbrev written : Place → (e : Bool) → (v : Datum) → Option Datum → (State → Went (List ℕ)) → State → Did
  written place e v r other s = then_do (text_or r other s) (λ t s1. put_text place (escaped_if (flag e v) t) s1)

  written_present : (place : Place) (e : Bool) (v : Datum) (r : Option Datum) (other : State → Went (List ℕ)) (s : State) → is_present (or_null r) ≡ true
      → put_text place (escaped_if (flag e v) (text_in (Some (or_null r)))) s ≡ written place e v r other s
  written_present place e v r other s h =
      sym (ap (λ x. written place e v x other s) (present_some r h) ∙ ap (λ w. then_do w (λ t s1. put_text place (escaped_if (flag e v) t) s1)) (text_or_present (or_null r) other s h))

  written_absent : (place : Place) (e : Bool) (v : Datum) (r : Option Datum) (other : State → Went (List ℕ)) (s : State) → is_present (or_null r) ≡ false
      → then_do (other s) (λ t s1. put_text place (escaped_if (flag e v) t) s1) ≡ written place e v r other s
  written_absent place e v r other s h = sym (ap (λ w. then_do w (λ t s1. put_text place (escaped_if (flag e v) t) s1)) (text_or_absent r other s h))

  out_body_goes : {f : Form 0 0} {m : Deeper → State → Did} (place : Place) (e : Bool) (v : Datum) (r : Option Datum) → Runs f [] m
      → Runs (where_null (puts_body place e f) (puts place e) place) (or_null r ∷ under e v) (λ dp s. written place e v r (trimmed_body place (m dp)) s)
  out_body_goes {m = m} place e v r h =
      where_null_goes place (or_null r) (λ absent. goes_as (λ dp s. written_absent place e v r (trimmed_body place (m dp)) s absent) (puts_body_goes place e v h))
      (λ present. goes_as (λ dp s. written_present place e v r (trimmed_body place (m dp)) s present) (puts_goes place e v (or_null r)))

  out_default_goes : (place : Place) (e : Bool) (v : Datum) (r : Option Datum) (t : List ℕ)
      → Runs (where_null (puts_default place e) (both (above 1 (puts place e)) (does op.Pop place)) place) (or_null r ∷ (under e v ++ text t ∷ [])) (λ dp s. written place e v r (Well t) s)
  out_default_goes place e v r t =
      where_null_goes place (or_null r) (λ absent. goes_as (λ dp s. written_absent place e v r (Well t) s absent) (puts_default_goes place e v (text t)))
      (λ present. goes_as (λ dp s. then_well (put_text place (escaped_if (flag e v) (text_in (Some (or_null r)))) s) ∙ written_present place e v r (Well t) s present)
      (both_goes _ (does op.Pop place) (above_goes 1 (text t ∷ []) (puts_goes place e v (or_null r))) (λ u. pop_goes place (text t))))

  -- `c:out` by what stands under its names
  abbrev out_meant : Place → (v d e : Option Datum) → (Deeper → State → Did) → Deeper → State → Did
  out_meant place v d e m dp s = then_do (text_or v (text_or d (trimmed_body place (m dp))) s) (λ t s1. put_text place (escaped_if (truth_or true e) t) s1)

  abbrev OutGoes : Place → Form 0 0 → (Deeper → State → Did) → (v : Option Datum) → (x y : Bool) → (d e : Option Datum) → Type 0
  OutGoes place f m v x y d e = Runs (out_form place x y f) (or_null v ∷ (under y (or_null e) ++ under x (or_null d))) (λ dp s. out_meant place v d e m dp s)

  -- a default is a text, and what says whether the text is escaped a truth value
  out_known : {f : Form 0 0} {m : Deeper → State → Did} (place : Place) (v : Option Datum) (x y : Bool) (d e : Option Datum) → Known text x d → Known truth y e → Runs f [] m
      → OutGoes place f m v x y d e
  out_known {f = f} {m = m} place v true true d e kd ke h =
      subst (λ o. OutGoes place f m v true true o e) (sym kd.1)
      (subst (λ o. OutGoes place f m v true true (Some (text kd.0)) o) (sym ke.1) (out_default_goes place true (truth ke.0) v kd.0))
  out_known {f = f} {m = m} place v true false d e kd ke h =
      subst (λ o. OutGoes place f m v true false o e) (sym kd.1)
      (subst (λ o. OutGoes place f m v true false (Some (text kd.0)) o) (sym ke) (out_default_goes place false null v kd.0))
  out_known {f = f} {m = m} place v false true d e kd ke h =
      subst (λ o. OutGoes place f m v false true o e) (sym kd) (subst (λ o. OutGoes place f m v false true None o) (sym ke.1) (out_body_goes place true (truth ke.0) v h))
  out_known {f = f} {m = m} place v false false d e kd ke h =
      subst (λ o. OutGoes place f m v false false o e) (sym kd) (subst (λ o. OutGoes place f m v false false None o) (sym ke) (out_body_goes place false null v h))

  -- the values that it wants, as they stand on the stack
  out_stack : (es : Named) (x y : Bool)
      → onto (wants (out_wanted x y) es) [] ≡ or_null (last_at (codes "value") es) ∷ (under y (or_null (last_at (codes "escapeXml") es)) ++ under x (or_null (last_at (codes "default") es)))
  out_stack es true true = refl
  out_stack es true false = refl
  out_stack es false true = refl
  out_stack es false false = refl

  out_distinct : (x y : Bool) → Distinct (out_wanted x y)
  out_distinct true true = ((refl, (refl, tt)), ((refl, tt), (tt, tt)))
  out_distinct true false = ((refl, tt), (tt, tt))
  out_distinct false true = ((refl, tt), (tt, tt))
  out_distinct false false = (tt, tt)

  -- `c:out`
  pub out_goes : {f : Form 0 0} {m : Deeper → State → Did} (place : Place) (names : List (List ℕ)) (ds : List Datum) → Given (coercion_in out_coercions) names ds → Runs f [] m
      → Runs (both (arranged (out_wanted (has (codes "default") names) (has (codes "escapeXml") names)) names place) (out_form place (has (codes "default") names) (has (codes "escapeXml") names) f))
      (onto ds []) (λ dp s. out_mean place (table_of names ds) (m dp) s)
  out_goes {f = f} {m = m} place names ds given h =
      let c = coercion_in out_coercions in
      let x = has (codes "default") names in
      let y = has (codes "escapeXml") names in
      let at : List ℕ → Option Datum = λ w. last_at w given.named in
      let coerced_at : (w : List ℕ) (d : Datum) → at w ≡ Some d → CoercedTo (c w) d = λ w d e. last_coerced c given.named given.coerced_so w d e in
      let means : (dp : Deeper) (s : State) → out_meant place (at (codes "value")) (at (codes "default")) (at (codes "escapeXml")) m dp s ≡ out_mean place (table_of names ds) (m dp) s =
      λ dp s. sym (out_same place (value_given c names ds given (codes "value")) (value_given c names ds given (codes "default")) (value_given c names ds given (codes "escapeXml")) m dp s) in
      goes_as means
      (then_runs (arranged_given place (out_wanted x y) (out_distinct x y) c names ds given)
      (starts_as (sym (out_stack given.named x y))
      (out_known place (at (codes "value")) x y (at (codes "default")) (at (codes "escapeXml"))
      (known_text (at (codes "default")) x (sym (has_given c names ds given (codes "default"))) (λ d e. coerced_at (codes "default") d e))
      (known_truth (at (codes "escapeXml")) y (sym (has_given c names ds given (codes "escapeXml"))) (λ d e. coerced_at (codes "escapeXml") d e)) h)))
    where
      out_same : (place : Place) {v v2 d d2 e e2 : Option Datum} → v ≡ v2 → d ≡ d2 → e ≡ e2 → (m : Deeper → State → Did) (dp : Deeper) (s : State)
          → out_meant place v d e m dp s ≡ out_meant place v2 d2 e2 m dp s
      out_same place {v2 = v2} {d = d} {d2 = d2} {e = e} p q r m dp s =
          ap (λ o. out_meant place o d e m dp s) p ∙ ap (λ o. out_meant place v2 o e m dp s) q ∙ ap (λ o. out_meant place v2 d2 o m dp s) r

  -- a url, written or in a variable
  pub url_put_goes : (place : Place) (x : Option Variable) (t : List ℕ) → Runs (url_put place x) (text t ∷ []) (λ dp s. url_mean place x t s)
  url_put_goes place None t = put_goes place (text t)
  url_put_goes place (Some x) t = sets_goes served stored deep Calls here seat same place x (text t) refl

  -- a value as a text, written
  text_put : (place : Place) (d : Datum) → Runs (both (coerces coercion.Text place) (does op.Put place)) (d ∷ []) (λ dp s. then_do (result_of place (text_of d) s) (λ t s1. put_text place t s1))
  text_put place d =
      both_goes (coerces coercion.Text place) (does op.Put place)
      (answered_goes place text (text_of d) (does_one (op.Coerce coercion.Text) place (d ∷ []) (λ s. result_of place (coerced to_text d) s) refl (λ s. refl))) (λ t. put_goes place (text t))

  -- the text of an expression
  pub shown_goes : {f : Form 0 1} {m : Deeper → State → Went Datum} (place : Place) → Runs1 serving seat deep Calls f [] m
      → Runs (both f (both (coerces coercion.Text place) (does op.Put place))) [] (λ dp s. shown_mean place (m dp) s)
  shown_goes {f = f} place h = both_goes f _ h (λ d. text_put place d)

  -- `jsp:getProperty`
  pub get_property_goes : (place : Place) (name property : List ℕ)
      → Runs (both (constant place (text property)) (both (does (op.GetProperty name) place) (both (coerces coercion.Text place) (does op.Put place)))) []
      (λ dp s. get_property_mean place name property s)
  get_property_goes place name property =
      then_runs (constant_puts served stored deep Calls here seat same place (text property))
      (goes_as (λ dp s. then_then (look_up place name s) _ _ ∙ then_same (look_up place name s) _ _ (λ p s1. then_result_of place (property_of property p.1) text_of (λ t s2. put_text place t s2) s1))
      (both_goes (does (op.GetProperty name) place) _
      (does_one (op.GetProperty name) place (text property ∷ []) (λ s. then_do (look_up place name s) (λ p s1. result_of place (property_of property p.1) s1)) refl (λ s. refl))
      (λ d. text_put place d)))
