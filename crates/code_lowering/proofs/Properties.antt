-- `jsp:setProperty` by the values of its attributes.
use Rattle.std.proofs.Common.{◌≡◌, ℕ, Bool, true, false, List, [], ◌∷◌, codes, Some, None, Option, refl, sym, ap, ◌∙◌}
use Rattle.el_ops.specs.Indexing.{or_null}
use Rattle.http_in.specs.declared.params.Param.{Param}
use Rattle.page_code.specs.declared.op.Op.TheVariants as op
use Rattle.page_code.specs.declared.operands.PropertyMode.TheVariants as mode
use Rattle.page_meaning.specs.Attributes.{Values, Coercion, table_of, value_at}
use Rattle.page_meaning.specs.Beans.{filled, one_by, property_of, written_back, found_set, set_property_mean}
use Rattle.page_meaning.specs.Context.{Served, Here, run_of, Deeper}
use Rattle.page_meaning.specs.Page.{Property, every, one}
use Rattle.page_meaning.specs.Request.{first_values}
use Rattle.page_meaning.specs.State.{State}
use Rattle.page_meaning.specs.Variables.{look_up}
use Rattle.page_meaning.specs.Went.{Did, then_do, result_of}
use Rattle.page_table.specs.Operations.{leaving_none}
use Rattle.page_table.specs.Program.{Stored, Serving}
use Rattle.page_table.specs.Seat.{Seat}
use Rattle.pg_text.specs.declared.place.Place.{Place}
use Rattle.pg_value.specs.Attrs.{entry_at}
use Rattle.pg_value.specs.Datum as datum
use Rattle.pg_value.specs.Datum.{Datum, null, truth, number, text, rec, entries_of, entry_list}
use Rattle.pg_value.specs.declared.scope.Scope.{Scope}
use Rattle.scopes.specs.Scopes.{Entries}
use Rattle.code_forms.specs.Forms.{arranged}
use Rattle.code_lowering.specs.Lowering.{has, property_form}
use Rattle.code_lowering.proofs.Arranged.{last_at}
use Rattle.code_lowering.proofs.Givens.{value_there, value_missing, arranged_given}
use Rattle.code_lowering.proofs.Goes.{Runs0, both_goes, does_none}
use Rattle.code_lowering.proofs.Joins.{then_same}
use Rattle.code_lowering.proofs.Parts.{onto}
use Rattle.code_lowering.proofs.Trees.{SeatOf, serving_by}
use Rattle.code_lowering.proofs.Values.{Given}

every_same : (place vp vq : Place) (name : List ℕ) (vs ws : Values) (params : List Param) (sc : Scope) (d : Datum) (s : State)
    → found_set place vp name every vs params sc d s ≡ found_set place vq name every ws params sc d s
every_same place vp vq name vs ws params sc null s = refl
every_same place vp vq name vs ws params sc (truth b) s = refl
every_same place vp vq name vs ws params sc (number n) s = refl
every_same place vp vq name vs ws params sc (text t) s = refl
every_same place vp vq name vs ws params sc (datum.list items) s = refl
every_same place vp vq name vs ws params sc (rec es) s = refl

-- one property of a record, by what was given for it
abbrev one_found : (place vp : Place) → (name property : List ℕ) → (params : Entries) → Scope → (es : Entries) → (value parameter : Option Datum) → State → Did
one_found place vp name property params sc es value parameter s =
    then_do (then_do (result_of place (property_of property (rec (entries_of es))) s) (λ old s1. one_by place vp es property old value parameter s1))
    (λ changed s1. written_back place sc name changed s1)

value_same : (place vp : Place) (name p q : List ℕ) (vs : Values) (v : Datum) (params : List Param) (sc : Scope) (d : Datum) (s : State) → value_at (codes "value") vs ≡ Some v
    → found_set place vp name (one p p) ((codes "value", v) ∷ []) params sc d s ≡ found_set place vp name (one p q) vs params sc d s
value_same place vp name p q vs v params sc null s e = refl
value_same place vp name p q vs v params sc (truth b) s e = refl
value_same place vp name p q vs v params sc (number n) s e = refl
value_same place vp name p q vs v params sc (text t) s e = refl
value_same place vp name p q vs v params sc (datum.list items) s e = refl
value_same place vp name p q vs v params sc (rec es) s e = sym (ap (λ x. one_found place vp name p (first_values params) sc (entry_list es) x (filled (entry_at q (first_values params))) s) e)

by_parameter : (place vp : Place) (es : Entries) (p : List ℕ) (old : Datum) (x : Option Datum) (s : State) → one_by place place es p old None x s ≡ one_by place vp es p old None x s
by_parameter place vp es p old (Some d) s = refl
by_parameter place vp es p old None s = refl

parameter_same : (place vp : Place) (name p q : List ℕ) (vs : Values) (params : List Param) (sc : Scope) (d : Datum) (s : State) → value_at (codes "value") vs ≡ None
    → found_set place place name (one p q) [] params sc d s ≡ found_set place vp name (one p q) vs params sc d s
parameter_same place vp name p q vs params sc null s e = refl
parameter_same place vp name p q vs params sc (truth b) s e = refl
parameter_same place vp name p q vs params sc (number n) s e = refl
parameter_same place vp name p q vs params sc (text t) s e = refl
parameter_same place vp name p q vs params sc (datum.list items) s e = refl
parameter_same place vp name p q vs params sc (rec es) s e =
    let given = filled (entry_at q (first_values params)) in
    let w = result_of place (property_of p (rec (entries_of (entry_list es)))) s in
    ap (λ x. then_do x (λ changed s1. written_back place sc name changed s1)) (then_same w _ _ (λ old s1. by_parameter place vp (entry_list es) p old given s1))
    ∙ sym (ap (λ x. one_found place vp name p (first_values params) sc (entry_list es) x given s) e)

module _ (served : Served) (stored : List ℕ → Stored) (deep : ℕ → Deeper) (Calls : ℕ → Type 0) (here : Here) (seat : Seat) (same : SeatOf here seat) where
  abbrev serving : Serving
  serving = serving_by served stored

  pub property_goes : (place vp : Place) (name : List ℕ) (property : Property) (c : List ℕ → Coercion) (names : List (List ℕ)) (ds : List Datum) → Given c names ds
      → Runs0 serving seat deep Calls (property_form place name property vp (has (codes "value") names) names) (onto ds [])
      (λ dp s. set_property_mean place vp name property (table_of names ds) (run_of here).params s)
  property_goes place vp name property c names ds given = go property (has (codes "value") names) refl
    where
      go : (property : Property) (b : Bool) → has (codes "value") names ≡ b
          → Runs0 serving seat deep Calls (property_form place name property vp b names) (onto ds []) (λ dp s. set_property_mean place vp name property (table_of names ds) (run_of here).params s)
      go every b e =
          both_goes (arranged [] names place) _ (arranged_given place [] tt c names ds given)
          (λ u. does_none (op.SetProperty name mode.Parameters) place [] (λ s. set_property_mean place vp name every (table_of names ds) (run_of here).params s) refl
          (λ s. ap (λ ps. leaving_none (set_property_mean place place name every [] ps s)) same.params
          ∙ ap leaving_none (then_same (look_up place name s) _ _ (λ p s1. every_same place place vp name [] (table_of names ds) (run_of here).params p.0 p.1 s1))))
      go (one p q) true e =
          both_goes (arranged (codes "value" ∷ []) names place) _ (arranged_given place (codes "value" ∷ []) (tt, tt) c names ds given)
          (λ u. does_none (op.SetProperty name (mode.Value p vp)) place (or_null (last_at (codes "value") given.named) ∷ [])
          (λ s. set_property_mean place vp name (one p q) (table_of names ds) (run_of here).params s) refl
          (λ s. ap (λ ps. leaving_none (set_property_mean place vp name (one p p) ((codes "value", or_null (last_at (codes "value") given.named)) ∷ []) ps s)) same.params
          ∙ ap leaving_none (then_same (look_up place name s) _ _
          (λ f s1. value_same place vp name p q (table_of names ds) (or_null (last_at (codes "value") given.named)) (run_of here).params f.0 f.1 s1 (value_there c names ds given (codes "value") e)))))
      go (one p q) false e =
          both_goes (arranged [] names place) _ (arranged_given place [] tt c names ds given)
          (λ u. does_none (op.SetProperty name (mode.Parameter p q)) place [] (λ s. set_property_mean place vp name (one p q) (table_of names ds) (run_of here).params s) refl
          (λ s. ap (λ ps. leaving_none (set_property_mean place place name (one p q) [] ps s)) same.params
          ∙ ap leaving_none (then_same (look_up place name s) _ _
          (λ f s1. parameter_same place vp name p q (table_of names ds) (run_of here).params f.0 f.1 s1 (value_missing c names ds given (codes "value") e)))))
