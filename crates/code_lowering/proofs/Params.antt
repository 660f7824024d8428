-- The params of addresses: pairs of values on the stack, where what their attributes and bodies do is known.
use Rattle.std.proofs.Common.{◌≡◌, ℕ, suc, List, [], ◌∷◌, codes, length, map, Some, refl, sym, ap, ◌∙◌, arith}
use Rattle.el_ops.specs.Indexing.{or_null}
use Rattle.http_in.specs.declared.params.Param.{Param}
use Rattle.page_code.specs.Ops.{address_with}
use Rattle.page_code.specs.declared.op.Op.TheVariants as op
use Rattle.page_meaning.specs.Addresses.{url_with, url_text, param_pair, with_pair}
use Rattle.page_meaning.specs.Attributes.{Values, Coercion, coercion_in, table_of, value_at, text_at, text_in, evaluated_names}
use Rattle.page_meaning.specs.Coercions.{param_coercions}
use Rattle.page_meaning.specs.Context.{Served, Here, Deeper}
use Rattle.page_meaning.specs.Core.{given_or_body}
use Rattle.page_meaning.specs.Meaning.{nodes_mean, attributes_mean, params_mean}
use Rattle.page_meaning.specs.Page.{Params, no_params, param, Attributes, Nodes}
use Rattle.page_meaning.specs.State.{State}
use Rattle.page_meaning.specs.Went.{Did, Went, Well, then_do, result_of}
use Rattle.page_meaning.specs.Work.{visit, visited}
use Rattle.page_table.specs.Operations.{params_in}
use Rattle.page_table.specs.Program.{Stored, Serving}
use Rattle.page_table.specs.Seat.{Seat}
use Rattle.pg_text.specs.declared.place.Place.{Place}
use Rattle.pg_value.specs.Datum.{Datum, text}
use Rattle.code_lowering.specs.Expressions.{visits}
use Rattle.code_forms.specs.Forms.{Form, nothing, both, above, counted, does, arranged, twice, address_is}
use Rattle.code_lowering.specs.Lowering.{has, with_value_or_body, url_form, param_count, names_in}
use Rattle.code_lowering.proofs.Actions.{pair_goes}
use Rattle.code_lowering.proofs.Arranged.{last_at}
use Rattle.code_lowering.proofs.Givens.{value_given, text_of_none, arranged_given, with_values_goes}
use Rattle.code_lowering.proofs.Goes.{Goes, Runs0, nothing_goes, both_goes, both_so, goes_as, leaves_as, counted_goes, above_goes, does_one}
use Rattle.code_lowering.proofs.Joins.{then_same, then_then, yields_then, yields_behind, maps_goes, unmaps_goes}
use Rattle.code_lowering.proofs.Parts.{Yields, onto, onto_append}
use Rattle.code_lowering.proofs.Trees.{SeatOf, serving_by, flat, pairs_flat, flat_length, visited_goes}
use Rattle.code_lowering.proofs.Values.{Given}

-- a pair of values as a param
abbrev pub param_of : Datum × Datum → Param
param_of p = record { name = text_in (Some p.0); value = text_in (Some p.1) }

pub params_flat : (ps : List (Datum × Datum)) → params_in (flat ps) ≡ map param_of ps
params_flat ps = ap (map param_of) (pairs_flat ps)

-- the name and the value of a param, as they stand on the stack
abbrev pub pair_mean : Place → Values → (State → Did) → State → Went (Datum × Datum)
pair_mean place vs body s = then_do (given_or_body place (value_at (codes "value") vs) body s) (λ d s1. Well (or_null (value_at (codes "name") vs), d) s1)

-- the pairs of params
abbrev pub pairs_mean : Served → Deeper → Params → Here → State → Went (List (Datum × Datum))
pairs_mean served dp no_params here s = Well [] s
pairs_mean served dp (param list body place rest) here s =
    then_do (visited place (λ s1. then_do (attributes_mean served dp list here (coercion_in param_coercions) s1)
    (λ ds s2. pair_mean place (table_of (evaluated_names (coercion_in param_coercions) list) ds) (nodes_mean served dp body here) s2)) s)
    (λ p s1. then_do (pairs_mean served dp rest here s1) (λ ps s2. Well (p ∷ ps) s2))

pair_same : (place : Place) (vs : Values) (body : State → Did) (s : State) → param_pair place vs body s ≡ then_do (pair_mean place vs body s) (λ p s1. Well (param_of p) s1)
pair_same place vs body s =
    let given = given_or_body place (value_at (codes "value") vs) body s in
    then_same given _ _ (λ d s1. ap (λ n. Well (record { name = n; value = text_in (Some d) }) s1) (text_of_none (value_at (codes "name") vs)))
    ∙ sym (then_then given (λ d s1. Well (or_null (value_at (codes "name") vs), d) s1) (λ p s1. Well (param_of p) s1))

-- the params are the pairs as params
pub params_same : (served : Served) (dp : Deeper) (params : Params) (here : Here) (s : State)
    → params_mean served dp params here s ≡ then_do (pairs_mean served dp params here s) (λ ps s1. Well (map param_of ps) s1)
params_same served dp no_params here s = refl
params_same served dp (param list body place rest) here s =
    let names = evaluated_names (coercion_in param_coercions) list in
    let values : State → Went (List Datum) = λ s1. attributes_mean served dp list here (coercion_in param_coercions) s1 in
    let pair : List Datum → State → Went (Datum × Datum) = λ ds s2. pair_mean place (table_of names ds) (nodes_mean served dp body here) s2 in
    let first : Went (Datum × Datum) = visited place (λ s1. then_do (values s1) pair) s in
    let as_param : Datum × Datum → State → Went Param = λ p s1. Well (param_of p) s1 in
    let others : Param → State → Went (List Param) = λ p s1. then_do (params_mean served dp rest here s1) (λ ps s2. Well (p ∷ ps) s2) in
    let all : List (Datum × Datum) → State → Went (List Param) = λ ps s1. Well (map param_of ps) s1 in
    let one : visited place (λ s1. with_pair list (attributes_mean served dp list here) place (nodes_mean served dp body here) s1) s ≡ then_do first as_param =
    then_same (visit place s) _ _ (λ u s1. then_same (values s1) _ _ (λ ds s2. pair_same place (table_of names ds) (nodes_mean served dp body here) s2) ∙ sym (then_then (values s1) pair as_param))
    ∙ sym (then_then (visit place s) (λ u s1. then_do (values s1) pair) as_param) in
    let rest_same : (p : Datum × Datum) (s1 : State) → others (param_of p) s1 ≡ then_do (then_do (pairs_mean served dp rest here s1) (λ ps s2. Well (p ∷ ps) s2)) all =
    λ p s1. ap (λ w. then_do w (λ ps s2. Well (param_of p ∷ ps) s2)) (params_same served dp rest here s1)
    ∙ then_then (pairs_mean served dp rest here s1) all (λ ps s2. Well (param_of p ∷ ps) s2)
    ∙ sym (then_then (pairs_mean served dp rest here s1) (λ ps s2. Well (p ∷ ps) s2) all) in
    ap (λ w. then_do w others) one ∙ then_then first as_param others ∙ then_same first _ _ rest_same
    ∙ sym (then_then first (λ p s1. then_do (pairs_mean served dp rest here s1) (λ ps s2. Well (p ∷ ps) s2)) all)

-- what is done with the params, by the pairs
pub with_params : {B : Type 0} (served : Served) (dp : Deeper) (params : Params) (here : Here) (go : List Param → State → Went B) (s : State)
    → then_do (pairs_mean served dp params here s) (λ ps s1. go (params_in (flat ps)) s1) ≡ then_do (params_mean served dp params here s) go
with_params served dp params here go s =
    then_same (pairs_mean served dp params here s) _ _ (λ ps s1. ap (λ l. go l s1) (params_flat ps))
    ∙ sym (then_then (pairs_mean served dp params here s) (λ ps s1. Well (map param_of ps) s1) go) ∙ sym (ap (λ w. then_do w go) (params_same served dp params here s))

pub pairs_counted : (served : Served) (dp : Deeper) (params : Params) (here : Here) (s : State) → Yields (λ ps. length ps ≡ param_count params) (pairs_mean served dp params here s)
pairs_counted served dp no_params here s = refl
pairs_counted served dp (param list body place rest) here s =
    yields_then (λ ps. length ps ≡ param_count (param list body place rest))
    (visited place (λ s1. then_do (attributes_mean served dp list here (coercion_in param_coercions) s1)
    (λ ds s2. pair_mean place (table_of (evaluated_names (coercion_in param_coercions) list) ds) (nodes_mean served dp body here) s2)) s) _ (λ p s1.
    yields_behind (λ ps. length ps ≡ param_count rest) (λ ps. length ps ≡ param_count (param list body place rest)) (pairs_mean served dp rest here s1) _
    (pairs_counted served dp rest here s1) (λ ps s2 h. ap suc h))

pub address_length : (d : Datum) (ps : List (Datum × Datum)) (n : ℕ) → length ps ≡ n → length (d ∷ flat ps) ≡ address_with n
address_length d ps n e = let h = flat_length ps n e in omega (arith, h)

module _ (served : Served) (stored : List ℕ → Stored) (deep : ℕ → Deeper) (Calls : ℕ → Type 0) (here : Here) (seat : Seat) (same : SeatOf here seat) where
  abbrev serving : Serving
  serving = serving_by served stored

  abbrev pub PairsGo : (params : Params) → Form 0 (twice (param_count params)) → Type 0
  PairsGo params f = Goes serving seat deep Calls f [] (λ ps. onto (flat ps) []) (λ dp s. pairs_mean served dp params here s)

  -- a param before the others
  pub more_params_go : (list : Attributes) (body : Nodes) (place : Place)
      (rest : Params) {fa : Form 0 (length (names_in param_coercions list))} {fb : Form 0 0} {fr : Form 0 (twice (param_count rest))}
      → ((dp : Deeper) (s : State) → Yields (Given (coercion_in param_coercions) (names_in param_coercions list)) (attributes_mean served dp list here (coercion_in param_coercions) s))
      → Goes serving seat deep Calls fa [] (λ ds. onto ds []) (λ dp s. attributes_mean served dp list here (coercion_in param_coercions) s)
      → Runs0 serving seat deep Calls fb [] (λ dp s. nodes_mean served dp body here s) → PairsGo rest fr
      → PairsGo (param list body place rest) (both
      (both (visits 1 place) (both fa (with_value_or_body place (codes "name") (has (codes "value") (names_in param_coercions list)) (names_in param_coercions list) fb))) (above 2 fr))
  more_params_go list body place rest {fa = fa} {fb = fb} {fr = fr} y ha hb hr =
      let c = coercion_in param_coercions in
      let names = names_in param_coercions list in
      both_goes {st1 = λ (q : Datum × Datum). q.1 ∷ q.0 ∷ []} {g = λ q dp s. then_do (pairs_mean served dp rest here s) (λ ps s1. Well (q ∷ ps) s1)}
      (both (visits 1 place) (both fa (with_value_or_body place (codes "name") (has (codes "value") names) names fb))) (above 2 fr)
      (visited_goes served stored deep Calls here seat same place (with_values_goes c names y ha (λ ds given.
      goes_as (λ dp s. sym (ap (λ n. then_do (given_or_body place (value_at (codes "value") (table_of names ds)) (nodes_mean served dp body here) s)
      (λ d s1. Well (or_null n, d) s1)) (value_given c names ds given (codes "name"))))
      (maps_goes {st2 = λ (q : Datum × Datum). q.1 ∷ q.0 ∷ []} (λ d. (or_null (last_at (codes "name") given.named), d)) (λ d. refl)
      (pair_goes served stored deep Calls here seat same place (codes "name") ((refl, tt), (tt, tt)) c names ds given hb)))))
      (λ q. maps_goes {st2 = λ ps. onto (flat ps) []} (λ ps. q ∷ ps) (λ ps. onto_append (flat ps) [] (q.1 ∷ q.0 ∷ [])) (above_goes 2 (q.1 ∷ q.0 ∷ []) hr))

  -- an address and its params above it
  pub addressed_goes : (place : Place) (w : List ℕ) (list : Params) {f : Form 0 (twice (param_count list))} (c : List ℕ → Coercion) (names : List (List ℕ)) (ds : List Datum) (given : Given c names ds)
      → PairsGo list f
      → Goes serving seat deep Calls (both (arranged (w ∷ []) names place) (above 1 f)) (onto ds []) (λ ps. onto (or_null (last_at w given.named) ∷ flat ps) [])
      (λ dp s. pairs_mean served dp list here s)
  addressed_goes place w list {f = f} c names ds given h =
      let p = or_null (last_at w given.named) in
      both_goes (arranged (w ∷ []) names place) (above 1 f) (arranged_given place (w ∷ []) (tt, tt) c names ds given)
      (λ u. leaves_as (λ ps. onto_append (flat ps) [] (p ∷ [])) (above_goes 1 (p ∷ []) h))

  -- the text under a name, as it stands on the stack
  pub address_given : (c : List ℕ → Coercion) (names : List (List ℕ)) (ds : List Datum) (given : Given c names ds) (w : List ℕ)
      → text_in (Some (or_null (last_at w given.named))) ≡ text_at w (table_of names ds)
  address_given c names ds given w = sym (text_of_none (last_at w given.named)) ∙ sym (ap text_in (value_given c names ds given w))

  -- the url of a tag
  pub url_goes : (place : Place) (w : List ℕ) (params : Params) {f : Form 0 (twice (param_count params))} (c : List ℕ → Coercion) (names : List (List ℕ)) (ds : List Datum)
      → Given c names ds → PairsGo params f
      → Goes serving seat deep Calls (url_form place names w (param_count params) f) (onto ds []) (λ t. text t ∷ [])
      (λ dp s. url_text place (text_at w (table_of names ds)) (λ s1. params_mean served dp params here s1) s)
  url_goes place w params {f = f} c names ds given h =
      let p = or_null (last_at w given.named) in
      let n = param_count params in
      let built : List Param → State → Went (List ℕ) = λ ps s1. result_of place (url_with (text_in (Some p)) ps) s1 in
      goes_as (λ dp s. with_params served dp params here built s
      ∙ ap (λ t. then_do (params_mean served dp params here s) (λ ps s1. result_of place (url_with t ps) s1)) (address_given c names ds given w))
      (both_so (λ ps. length ps ≡ n) (both (arranged (w ∷ []) names place) (above 1 f)) (both (counted (address_is n) nothing) (does (op.Url n) place))
      (λ dp s. pairs_counted served dp params here s) (addressed_goes place w params c names ds given h)
      (λ ps e. both_goes (counted (address_is n) nothing) (does (op.Url n) place) (counted_goes (address_is n) (nothing_goes {st = λ (u : Unit {0}). onto (p ∷ flat ps) []} tt))
      (λ u. unmaps_goes {st = λ d. d ∷ []} (λ t. text t)
      (does_one (op.Url n) place (p ∷ flat ps) (λ s. then_do (built (params_in (flat ps)) s) (λ t s1. Well (text t) s1)) (address_length p ps n e) (λ s. refl)))))
