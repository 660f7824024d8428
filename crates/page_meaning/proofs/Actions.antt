-- The core tags and the beans are orderly, where their bodies are.
use Rattle.std.proofs.Common.{ℕ, Bool, true, List, [], ◌∷◌, Option, Some, None, ap, ◌∙◌, codes}
use Rattle.std.specs.Prelude.{is_some}
use Rattle.el_coercion.specs.Text.{text_of}
use Rattle.http_in.specs.declared.params.Param.{Param}
use Rattle.jstl_functions.specs.Functions.{and_then, measured}
use Rattle.jstl_functions.specs.Texts.{contains_part, tokens}
use Rattle.pg_text.specs.declared.place.Place.{Place}
use Rattle.pg_value.specs.Attrs.{entry_at, with_entry}
use Rattle.pg_value.specs.Datum as datum
use Rattle.pg_value.specs.Datum.{Datum, null, truth, number, text, rec, entry_list, entries_of}
use Rattle.pg_value.specs.Value.{value_of}
use Rattle.pg_value.specs.declared.fault.RunFault.TheVariants as fault
use Rattle.pg_value.specs.declared.scope.Scope.{Scope}
use Rattle.scopes.specs.HeldScope.{held_scope}
use Rattle.scopes.specs.Scopes.{Entries, found_in, with_variable, without_variable}
use Rattle.scopes.specs.declared.held_scope.HeldScope.{HeldScope}
use Rattle.scopes.specs.declared.held_scope.HeldScope.TheVariants as held
use Rattle.site_words.specs.declared.words.AppStep.TheVariants as step
use Rattle.page_meaning.specs.Addresses.{url_with, url_text, param_pair, with_pair, and_params, local_url, written_or_kept, url_mean}
use Rattle.page_meaning.specs.Attributes.{Values, Coercion, coercion_in, coerced, evaluated_names, table_of, value_at, text_in, text_at, truth_or}
use Rattle.page_meaning.specs.Beans.{bean_in, use_bean_mean, property_of, get_property_mean, like, filled, all_by_parameters, one_set, one_by, properties_set, written_back, found_set, set_property_mean}
use Rattle.page_meaning.specs.Bodies.{put_text, keeping, trimmed}
use Rattle.page_meaning.specs.Coercions.{param_coercions}
use Rattle.page_meaning.specs.Core.{trimmed_body, text_or, out_text, escaped_if, out_mean, given_or_body, set_or_remove, set_mean, property_replaced, set_entry_mean, assign_given, if_mean, each_mean, each_token_mean}
use Rattle.page_meaning.specs.Growth.{with_more}
use Rattle.page_meaning.specs.Loops.{with_named, without_named, set_status, round_begun, rounds_mean, loop_mean}
use Rattle.page_meaning.specs.Page.{Variable, Property, every, one, Attributes}
use Rattle.page_meaning.specs.Request.{first_values}
use Rattle.page_meaning.specs.Rounds.{Round, status_record, given_items, rounds_of, token_items}
use Rattle.page_meaning.specs.State.{State}
use Rattle.site_words.specs.PageSteps.{tells_created}
use Rattle.page_meaning.specs.Variables.{set_held, assign, assign_variable, look_up, with_page_variable, without_page_variable}
use Rattle.page_meaning.specs.Went.{Went, Did, Well, Raised, then_do, either, result_of}
use Rattle.page_meaning.specs.Work.{visit, ask}
use Rattle.page_meaning.proofs.Growing.{both}
use Rattle.page_meaning.proofs.Orderly.{Orderly, Calm, well, raised, result, changed, behind, thens, tidied_at, eithers}
use Rattle.page_meaning.proofs.Words.{scopes_calm, nothing_calm, visit_orderly, ask_orderly, set_held_orderly, assign_orderly, assign_variable_orderly, unassign_in_orderly, look_up_orderly, put_text_orderly, keeping_orderly, kept_value_orderly}

pub with_page_calm : (name : List ℕ) (d : Datum) → Calm (with_page_variable name d)
with_page_calm name d = scopes_calm (λ scopes. with_variable scopes held.Page name d)

pub without_page_calm : (name : List ℕ) → Calm (without_page_variable name)
without_page_calm name = scopes_calm (λ scopes. without_variable scopes held.Page name)

pub with_named_calm : (name : Option (List ℕ)) (d : Datum) → Calm (with_named name d)
with_named_calm None d = nothing_calm
with_named_calm (Some name) d = with_page_calm name d

pub without_named_calm : (name : Option (List ℕ)) → Calm (without_named name)
without_named_calm None = nothing_calm
without_named_calm (Some name) = without_page_calm name

pub composed_calm : (first second : State → State) → Calm first → Calm second → Calm (λ s. second (first s))
composed_calm first second a b = record {
  grows = λ s. both s (first s) (second (first s)) (a.grows s) (b.grows (first s));
  kept = λ s more. ap second (a.kept s more) ∙ b.kept (first s) more;
}

module _ {left : ℕ} where
  -- loops
  set_status_orderly : (place : Place) (name : Option (List ℕ)) (d : Datum) → Orderly left (set_status place name d)
  set_status_orderly place None d = well tt
  set_status_orderly place (Some name) d =
      thens (result_of place (measured d)) (λ m s1. Well tt (with_page_variable name m s1)) (result place (measured d)) (λ m. changed tt (with_page_variable name m) (with_page_calm name m))

  round_orderly : (place : Place) (variable status : Option (List ℕ)) (vs : Values) (r : Round) → Orderly left (round_begun place variable status vs r)
  round_orderly place variable status vs r =
      thens (visit place) (λ u s1. then_do (result_of place r.item s1) (λ item s2. set_status place status (status_record vs r item) (with_named variable item s2))) (visit_orderly place)
      (λ u. thens (result_of place r.item) (λ item s2. set_status place status (status_record vs r item) (with_named variable item s2)) (result place r.item)
      (λ item. behind (set_status place status (status_record vs r item)) (with_named variable item) (with_named_calm variable item) (set_status_orderly place status (status_record vs r item))))

  rounds_orderly : (place : Place) (variable status : Option (List ℕ)) (vs : Values) (body : State → Did) (rounds : List Round) → Orderly left body
      → Orderly left (rounds_mean place variable status vs body rounds)
  rounds_orderly place variable status vs body [] h = well tt
  rounds_orderly place variable status vs body (r ∷ rest) h =
      thens (round_begun place variable status vs r) (λ u s1. then_do (body s1) (λ u2 s2. rounds_mean place variable status vs body rest s2)) (round_orderly place variable status vs r)
      (λ u. thens body (λ u2 s2. rounds_mean place variable status vs body rest s2) h (λ u2. rounds_orderly place variable status vs body rest h))

  loop_orderly : (place : Place) (variable status : Option (List ℕ)) (vs : Values) (body : State → Did) (rounds : List Round) → Orderly left body
      → Orderly left (loop_mean place variable status vs body rounds)
  loop_orderly place variable status vs body rounds h s =
      tidied_at (λ s1. without_named status (without_named variable s1))
      (composed_calm (without_named variable) (without_named status) (without_named_calm variable) (without_named_calm status))
      s (rounds_mean place variable status vs body rounds s) (λ more. rounds_mean place variable status vs body rounds (with_more more s)) (rounds_orderly place variable status vs body rounds h s)

  pub each_orderly : (place : Place) (variable status : Option (List ℕ)) (vs : Values) (body : State → Did) → Orderly left body → Orderly left (each_mean place variable status vs body)
  each_orderly place variable status vs body h =
      let r = and_then (given_items (value_at (codes "items") vs)) (λ items. rounds_of items vs) in
      thens (result_of place r) (λ rounds s1. loop_mean place variable status vs body rounds s1) (result place r) (λ rounds. loop_orderly place variable status vs body rounds h)

  pub each_token_orderly : (place : Place) (variable status : Option (List ℕ)) (vs : Values) (body : State → Did) → Orderly left body → Orderly left (each_token_mean place variable status vs body)
  each_token_orderly place variable status vs body h =
      let r = rounds_of (Some (token_items (tokens (text_at (codes "delims") vs) (text_at (codes "items") vs)))) vs in
      thens (result_of place r) (λ rounds s1. loop_mean place variable status vs body rounds s1) (result place r) (λ rounds. loop_orderly place variable status vs body rounds h)

  -- what is written and set
  trimmed_body_orderly : (place : Place) (body : State → Did) → Orderly left body → Orderly left (trimmed_body place body)
  trimmed_body_orderly place body h = thens (keeping place body) (λ t s1. Well (trimmed t) s1) (keeping_orderly place body h) (λ t. well (trimmed t))

  text_or_orderly : (o : Option Datum) (other : State → Went (List ℕ)) → Orderly left other → Orderly left (text_or o other)
  text_or_orderly None other h = h
  text_or_orderly (Some null) other h = h
  text_or_orderly (Some (truth b)) other h = well (text_in (Some (truth b)))
  text_or_orderly (Some (number n)) other h = well (text_in (Some (number n)))
  text_or_orderly (Some (text t)) other h = well (text_in (Some (text t)))
  text_or_orderly (Some (datum.list is)) other h = well (text_in (Some (datum.list is)))
  text_or_orderly (Some (rec es)) other h = well (text_in (Some (rec es)))

  pub out_orderly : (place : Place) (vs : Values) (body : State → Did) → Orderly left body → Orderly left (out_mean place vs body)
  out_orderly place vs body h =
      thens (out_text place vs body) (λ t s1. put_text place (escaped_if (truth_or true (value_at (codes "escapeXml") vs)) t) s1)
      (text_or_orderly (value_at (codes "value") vs) (text_or (value_at (codes "default") vs) (trimmed_body place body))
      (text_or_orderly (value_at (codes "default") vs) (trimmed_body place body) (trimmed_body_orderly place body h)))
      (λ t. put_text_orderly place (escaped_if (truth_or true (value_at (codes "escapeXml") vs)) t))

  given_or_body_orderly : (place : Place) (o : Option Datum) (body : State → Did) → Orderly left body → Orderly left (given_or_body place o body)
  given_or_body_orderly place (Some d) body h = well d
  given_or_body_orderly place None body h = kept_value_orderly place body h

  set_or_remove_orderly : (place : Place) (x : Variable) (d : Datum) → Orderly left (set_or_remove place x d)
  set_or_remove_orderly place x null = unassign_in_orderly place x.scope x.name
  set_or_remove_orderly place x (truth b) = assign_variable_orderly place x (truth b)
  set_or_remove_orderly place x (number n) = assign_variable_orderly place x (number n)
  set_or_remove_orderly place x (text t) = assign_variable_orderly place x (text t)
  set_or_remove_orderly place x (datum.list is) = assign_variable_orderly place x (datum.list is)
  set_or_remove_orderly place x (rec es) = assign_variable_orderly place x (rec es)

  pub set_orderly : (place : Place) (x : Variable) (vs : Values) (body : State → Did) → Orderly left body → Orderly left (set_mean place x vs body)
  set_orderly place x vs body h =
      thens (given_or_body place (value_at (codes "value") vs) body) (λ d s1. set_or_remove place x d s1) (given_or_body_orderly place (value_at (codes "value") vs) body h) (λ d. set_or_remove_orderly place x d)

  pub set_entry_orderly : (place : Place) (target : List ℕ) (vs : Values) (body : State → Did) → Orderly left body → Orderly left (set_entry_mean place target vs body)
  set_entry_orderly place target vs body h =
      thens (given_or_body place (value_at (codes "value") vs) body)
      (λ d s1. then_do (look_up place target s1) (λ p s2. then_do (result_of place (property_replaced (text_at (codes "property") vs) d p.1) s2) (λ r s3. assign place p.0 target r s3)))
      (given_or_body_orderly place (value_at (codes "value") vs) body h)
      (λ d. thens (look_up place target) (λ p s2. then_do (result_of place (property_replaced (text_at (codes "property") vs) d p.1) s2) (λ r s3. assign place p.0 target r s3)) (look_up_orderly place target)
      (λ p. thens (result_of place (property_replaced (text_at (codes "property") vs) d p.1)) (λ r s3. assign place p.0 target r s3) (result place (property_replaced (text_at (codes "property") vs) d p.1))
      (λ r. assign_orderly place p.0 target r)))

  assign_given_orderly : (place : Place) (o : Option Variable) (d : Datum) → Orderly left (assign_given place o d)
  assign_given_orderly place (Some x) d = assign_variable_orderly place x d
  assign_given_orderly place None d = well tt

  pub if_orderly : (place : Place) (o : Option Variable) (t : Bool) (body : State → Did) → Orderly left body → Orderly left (if_mean place o t body)
  if_orderly place o t body h =
      thens (assign_given place o (truth t)) (λ u s1. either t body (λ s2. Well tt s2) s1) (assign_given_orderly place o (truth t)) (λ u. eithers t body (λ s2. Well tt s2) h (well tt))

  -- addresses
  pub url_text_orderly : (place : Place) (address : List ℕ) (params : State → Went (List Param)) → Orderly left params → Orderly left (url_text place address params)
  url_text_orderly place address params h = thens params (λ ps s1. result_of place (url_with address ps) s1) h (λ ps. result place (url_with address ps))

  pub with_pair_orderly : (attrs : Attributes) (values : (List ℕ → Coercion) → State → Went (List Datum)) (place : Place) (body : State → Did)
      → Orderly left (values (coercion_in param_coercions)) → Orderly left body → Orderly left (with_pair attrs values place body)
  with_pair_orderly attrs values place body h k =
      thens (values (coercion_in param_coercions)) (λ ds s1. param_pair place (table_of (evaluated_names (coercion_in param_coercions) attrs) ds) body s1) h
      (λ ds. let vs = table_of (evaluated_names (coercion_in param_coercions) attrs) ds in
      thens (given_or_body place (value_at (codes "value") vs) body) (λ d s1. Well (record { name = text_at (codes "name") vs; value = text_in (Some d) }) s1)
      (given_or_body_orderly place (value_at (codes "value") vs) body k) (λ d. well (record { name = text_at (codes "name") vs; value = text_in (Some d) })))

  pub and_params_orderly : (first : State → Went Param) (others : State → Went (List Param)) → Orderly left first → Orderly left others → Orderly left (and_params first others)
  and_params_orderly first others h k =
      thens first (λ p s1. then_do (others s1) (λ ps s2. Well (p ∷ ps) s2)) h (λ p. thens others (λ ps s2. Well (p ∷ ps) s2) k (λ ps. well (p ∷ ps)))

  pub local_url_orderly : (place : Place) (address : List ℕ) (go : State → Did) → Orderly left go → Orderly left (local_url place address go)
  local_url_orderly place address go h = eithers (contains_part (codes "://") address) (Raised fault.BadUrl place) go (raised fault.BadUrl place) h

  pub written_or_kept_orderly : (place : Place) (o : Option Variable) (part : State → Did) → Orderly left part → Orderly left (written_or_kept place o part)
  written_or_kept_orderly place None part h = h
  written_or_kept_orderly place (Some x) part h = thens (keeping place part) (λ t s1. assign_variable place x (text t) s1) (keeping_orderly place part h) (λ t. assign_variable_orderly place x (text t))

  pub url_orderly : (place : Place) (o : Option Variable) (url : List ℕ) → Orderly left (url_mean place o url)
  url_orderly place None url = put_text_orderly place url
  url_orderly place (Some x) url = assign_variable_orderly place x (text url)

  -- beans
  bean_in_orderly : (place : Place) (o : Option HeldScope) (name : List ℕ) (bean : Datum) (body : State → Did) → Orderly left body → Orderly left (bean_in place o name bean body)
  bean_in_orderly place (Some sc) name bean body h s =
      eithers (is_some (found_in s.scopes sc name)) (Well tt) (λ s1. then_do (set_held place sc name bean s1) (λ u s2. body s2)) (well tt)
      (thens (set_held place sc name bean) (λ u s2. body s2) (set_held_orderly place sc name bean) (λ u. h)) s
  bean_in_orderly place None name bean body h s =
      thens (ask place (step.Ensure name (value_of bean))) (λ answer s1. either (tells_created answer) body (Well tt) s1) (ask_orderly place (step.Ensure name (value_of bean)))
      (λ answer. eithers (tells_created answer) body (Well tt) h (well tt)) s

  pub use_bean_orderly : (place : Place) (sc : Scope) (name : List ℕ) (bean : Datum) (body : State → Did) → Orderly left body → Orderly left (use_bean_mean place sc name bean body)
  use_bean_orderly place sc name bean body h = bean_in_orderly place (held_scope sc) name bean body h

  pub get_property_orderly : (place : Place) (name property : List ℕ) → Orderly left (get_property_mean place name property)
  get_property_orderly place name property =
      thens (look_up place name) (λ p s1. then_do (result_of place (and_then (property_of property p.1) text_of) s1) (λ t s2. put_text place t s2)) (look_up_orderly place name)
      (λ p. thens (result_of place (and_then (property_of property p.1) text_of)) (λ t s2. put_text place t s2) (result place (and_then (property_of property p.1) text_of)) (λ t. put_text_orderly place t))

  one_set_orderly : (place : Place) (entries : Entries) (name : List ℕ) (old new : Datum) → Orderly left (one_set place entries name old new)
  one_set_orderly place entries name old new =
      thens (result_of place (coerced (like old) new)) (λ d s1. Well (Some (with_entry entries name d)) s1) (result place (coerced (like old) new)) (λ d. well (Some (with_entry entries name d)))

  one_by_orderly : (place value_place : Place) (entries : Entries) (name : List ℕ) (old : Datum) (value parameter : Option Datum)
      → Orderly left (one_by place value_place entries name old value parameter)
  one_by_orderly place value_place entries name old (Some d) parameter = one_set_orderly value_place entries name old d
  one_by_orderly place value_place entries name old None (Some d) = one_set_orderly place entries name old d
  one_by_orderly place value_place entries name old None None = well None

  properties_orderly : (place value_place : Place) (property : Property) (vs : Values) (params entries : Entries) → Orderly left (properties_set place value_place property vs params entries)
  properties_orderly place value_place every vs params entries =
      thens (result_of place (all_by_parameters params entries entries)) (λ es s1. Well (Some es) s1) (result place (all_by_parameters params entries entries)) (λ es. well (Some es))
  properties_orderly place value_place (one name parameter) vs params entries =
      thens (result_of place (property_of name (rec (entries_of entries))))
      (λ old s1. one_by place value_place entries name old (value_at (codes "value") vs) (filled (entry_at parameter params)) s1) (result place (property_of name (rec (entries_of entries))))
      (λ old. one_by_orderly place value_place entries name old (value_at (codes "value") vs) (filled (entry_at parameter params)))

  written_back_orderly : (place : Place) (sc : Scope) (name : List ℕ) (o : Option Entries) → Orderly left (written_back place sc name o)
  written_back_orderly place sc name None = well tt
  written_back_orderly place sc name (Some es) =
      thens (result_of place (measured (rec (entries_of es)))) (λ r s1. assign place sc name r s1) (result place (measured (rec (entries_of es)))) (λ r. assign_orderly place sc name r)

  found_set_orderly : (place value_place : Place) (name : List ℕ) (property : Property) (vs : Values) (params : List Param) (sc : Scope) (d : Datum)
      → Orderly left (found_set place value_place name property vs params sc d)
  found_set_orderly place value_place name property vs params sc (rec es) =
      thens (properties_set place value_place property vs (first_values params) (entry_list es)) (λ changed s1. written_back place sc name changed s1)
      (properties_orderly place value_place property vs (first_values params) (entry_list es)) (λ o. written_back_orderly place sc name o)
  found_set_orderly place value_place name property vs params sc null = raised fault.NotARecord place
  found_set_orderly place value_place name property vs params sc (truth b) = raised fault.NotARecord place
  found_set_orderly place value_place name property vs params sc (number n) = raised fault.NotARecord place
  found_set_orderly place value_place name property vs params sc (text t) = raised fault.NotARecord place
  found_set_orderly place value_place name property vs params sc (datum.list is) = raised fault.NotARecord place

  pub set_property_orderly : (place value_place : Place) (name : List ℕ) (property : Property) (vs : Values) (params : List Param) → Orderly left (set_property_mean place value_place name property vs params)
  set_property_orderly place value_place name property vs params =
      thens (look_up place name) (λ p s1. found_set place value_place name property vs params p.0 p.1 s1) (look_up_orderly place name) (λ p. found_set_orderly place value_place name property vs params p.0 p.1)
