-- The form of each kind of node means the node.
use Rattle.std.proofs.Common.{◌≡◌, ℕ, Bool, List, [], ◌∷◌, codes, length, Some, None, Option, refl, sym, ap, ◌∙◌}
use Rattle.el_ops.specs.Indexing.{or_null}
use Rattle.page_code.specs.declared.op.Op.TheVariants as op
use Rattle.page_code.specs.declared.operands.Over.TheVariants as over
use Rattle.page_meaning.specs.Attributes.{Coercion, coercion_in, evaluated_names, parts_value, text_in}
use Rattle.page_meaning.specs.Beans.{bean_in, value_place}
use Rattle.page_meaning.specs.Bodies.{put_text, given_value, shown_mean}
use Rattle.page_meaning.specs.Coercions.{out_coercions, set_coercions, test_coercions, each_coercions, token_coercions, url_coercions, param_coercions, page_coercions}
use Rattle.page_meaning.specs.Context.{Served, Here, run_of, Deeper}
use Rattle.page_meaning.specs.Expressions.{ev}
use Rattle.page_meaning.specs.Includes.{include_mean, forward_mean}
use Rattle.page_meaning.specs.Meaning.{flush_if, node_mean, nodes_mean, attributes_mean, params_mean, branches_mean}
use Rattle.page_meaning.specs.Page.{TagFile, Variable, Node, template, shown, out, set, set_entry, remove, catch, when_true, choose, each, each_token, import, url, redirect, include, forward, use_bean, get_property, set_property, group, do_body, invoke, call, Nodes, no_nodes, more_nodes, Attributes, no_attributes, written, given, Params, no_params, param, Branches, no_branches, when, otherwise, Body, place_of}
use Rattle.page_meaning.specs.State.{State}
use Rattle.page_meaning.specs.Tags.{tag_at, tag_mean}
use Rattle.page_meaning.specs.Went.{Did, Went, then_do, either}
use Rattle.page_meaning.specs.Work.{visited}
use Rattle.page_table.specs.Program.{Stored, Serving}
use Rattle.page_table.specs.Seat.{Seat}
use Rattle.pg_text.specs.declared.place.Place.{Place}
use Rattle.pg_value.proofs.Inverses.{datum_of-value_of}
use Rattle.pg_value.specs.Datum.{Datum, text}
use Rattle.pg_value.specs.Value.{value_of}
use Rattle.scopes.specs.HeldScope.{held_scope}
use Rattle.code_lowering.specs.Expressions.{visits, first_visits}
use Rattle.code_forms.specs.Forms.{Form, nothing, both, counted, calls, included_page, forwards_to, address_is}
use Rattle.code_lowering.specs.Lowering.{node_visits, names_in, scoped, loop_kind, coercion_by, tag_form, bean_of, param_count, page_form, handed_form, fragments_form, node_form, nodes_form, attributes_form, params_form, branches_form}
use Rattle.code_lowering.specs.Programs.{stored_of}
use Rattle.code_lowering.proofs.Actions.{tests_goes, if_goes, set_goes, set_entry_goes, kept_in_goes, removes_goes}
use Rattle.code_lowering.proofs.Outputs.{out_goes, url_put_goes, shown_goes, get_property_goes}
use Rattle.code_lowering.proofs.Arranged.{last_at}
use Rattle.code_lowering.proofs.Callings.{deep, Deep, tag_goes, own_body_goes, own_fragment_goes, include_goes, import_goes, redirect_goes, forward_goes}
use Rattle.code_lowering.proofs.Givens.{with_values_goes}
use Rattle.code_lowering.proofs.Goes.{Goes, Runs0, nothing_goes, both_goes, both_so, goes_as, counted_goes, does_none}
use Rattle.code_lowering.proofs.Loops.{looped_goes, caught_goes, ensured_goes}
use Rattle.code_lowering.proofs.Params.{pairs_mean, with_params, pairs_counted, address_length, more_params_go, addressed_goes, address_given, url_goes}
use Rattle.code_lowering.proofs.Parts.{Yields, onto}
use Rattle.code_lowering.proofs.Properties.{property_goes}
use Rattle.code_lowering.proofs.Seats.{Same, seat_of}
use Rattle.code_lowering.proofs.Trees.{SeatOf, Visits, serving_by, flat, one_more, one_visit, visits_then, value_mean, first_then, visits_go, visited_goes, value_goes}
use Rattle.code_lowering.proofs.Values.{Given, given_none, given_length, attribute_given, parts_goes, given_goes, with_value_goes}

module _ (served : Served) (stored : List ℕ → Stored) (agrees : (path : List ℕ) → stored path ≡ stored_of (served.pages path)) (here : Here) (seat : Seat) (same : Same here seat) where
  abbrev serving : Serving
  serving = serving_by served stored

  abbrev levels : ℕ → Deeper
  levels = deep served stored agrees

  abbrev Below : ℕ → Type 0
  Below = Deep served stored agrees

  seated : SeatOf here seat
  seated = seat_of here seat same

  abbrev Means : Form 0 0 → (Deeper → State → Did) → Type 0
  Means f m = Runs0 serving seat levels Below f [] m

  -- the values of attributes are coerced as their names say
  attributes_given : (list : Attributes) (c : List ℕ → Coercion) (dp : Deeper) (s : State) → Yields (Given c (evaluated_names c list)) (attributes_mean served dp list here c s)
  attributes_given no_attributes c dp s = given_none c
  attributes_given (written name parts place rest) c dp s =
      attribute_given c (c name) name place (λ s1. parts_value served here place parts s1) (evaluated_names c rest) (λ s1. attributes_mean served dp rest here c s1) refl
      (λ s1. attributes_given rest c dp s1) s
  attributes_given (given name trim nodes place rest) c dp s =
      attribute_given c (c name) name place (λ s1. visited place (λ s2. given_value trim place (nodes_mean served dp nodes here) s2) s1) (evaluated_names c rest)
      (λ s1. attributes_mean served dp rest here c s1) refl (λ s1. attributes_given rest c dp s1) s

  abbrev AttributesGo : Attributes → (List ℕ → Coercion) → Type 0
  AttributesGo list c = Goes serving seat levels Below (attributes_form (run_of here).page list c) [] (λ ds. onto ds []) (λ dp s. attributes_mean served dp list here c s)

  abbrev ParamsGo : Params → Type 0
  ParamsGo params = Goes serving seat levels Below (params_form (run_of here).page params) [] (λ ps. onto (flat ps) []) (λ dp s. pairs_mean served dp params here s)

  -- attributes, and what is done with their values
  with_attributes : {k : ℕ} {A : Type 0} {st : A → List Datum} (list : Attributes) (c : List ℕ → Coercion) {rest : Form (length (evaluated_names c list)) k} {go : List Datum → Deeper → State → Went A}
      → AttributesGo list c
      → ((ds : List Datum) → Given c (evaluated_names c list) ds → Goes serving seat levels Below rest (onto ds []) st (go ds))
      → Goes serving seat levels Below (both (attributes_form (run_of here).page list c) rest) [] st (λ dp s. then_do (attributes_mean served dp list here c s) (λ ds s1. go ds dp s1))
  with_attributes list c h g = with_values_goes c (evaluated_names c list) (λ dp s. attributes_given list c dp s) h g

  -- what a node means behind its visits
  abbrev Behind : Deeper → Node → State → Did
  Behind dp (shown e place) s = shown_mean place (value_mean served here place e) s
  Behind dp other s = node_mean served dp other here s

  -- a node is its visits and then the rest
  node_then : (dp : Deeper) (n : Node) → Visits (place_of n) (node_visits n) (λ s. visited (place_of n) (λ s1. node_mean served dp n here s1) s) (Behind dp n)
  node_then dp (shown e place) s =
      one_more place (first_visits e) (shown_mean place (ev served here place e)) (shown_mean place (value_mean served here place e))
      (visits_then place (first_visits e) (ev served here place e) (value_mean served here place e) _ (first_then served here place e)) s
  node_then dp other s = one_visit (place_of other) (λ s1. node_mean served dp other here s1) s

  visits_node : {f g : Form 0 0} {m : Deeper → State → Did} (n : Node) → Means f (λ dp s. Behind dp n s) → Means g m
      → Means (both (both (visits (node_visits n) (place_of n)) f) g) (λ dp s. then_do (visited (place_of n) (λ s1. node_mean served dp n here s1) s) (λ u s1. m dp s1))
  visits_node {f = f} {g = g} {m = m} n hf hg =
      goes_as (λ dp s. ap (λ w. then_do w (λ u s1. m dp s1)) (sym (node_then dp n s)))
      (both_goes (both (visits (node_visits n) (place_of n)) f) g
      (both_goes (visits (node_visits n) (place_of n)) f (visits_go served stored levels Below here seat seated (place_of n) (node_visits n)) (λ u. hf)) (λ u. hg))

  -- the kinds with params
  import_means : (x : Option Variable) (list : Attributes) (params : Params) (place : Place) → AttributesGo list (coercion_in url_coercions) → ParamsGo params
      → Means (node_form (run_of here).page (import x list params place)) (λ dp s. node_mean served dp (import x list params place) here s)
  import_means x list params place ha hp =
      with_attributes list (coercion_in url_coercions) ha
      (λ ds g. both_goes _ _ (url_goes served stored levels Below here seat seated place (codes "url") params (coercion_in url_coercions) (names_in url_coercions list) ds g hp)
      (λ t. kept_in_goes served stored levels Below here seat seated place x (import_goes served stored agrees here seat same place (text t))))

  url_means : (x : Option Variable) (list : Attributes) (params : Params) (place : Place) → AttributesGo list (coercion_in url_coercions) → ParamsGo params
      → Means (node_form (run_of here).page (url x list params place)) (λ dp s. node_mean served dp (url x list params place) here s)
  url_means x list params place ha hp =
      with_attributes list (coercion_in url_coercions) ha
      (λ ds g. both_goes _ _ (url_goes served stored levels Below here seat seated place (codes "value") params (coercion_in url_coercions) (names_in url_coercions list) ds g hp)
      (λ t. url_put_goes served stored levels Below here seat seated place x t))

  redirect_means : (list : Attributes) (params : Params) (place : Place) → AttributesGo list (coercion_in url_coercions) → ParamsGo params
      → Means (node_form (run_of here).page (redirect list params place)) (λ dp s. node_mean served dp (redirect list params place) here s)
  redirect_means list params place ha hp =
      with_attributes list (coercion_in url_coercions) ha
      (λ ds g. both_goes _ _ (url_goes served stored levels Below here seat seated place (codes "url") params (coercion_in url_coercions) (names_in url_coercions list) ds g hp)
      (λ t. redirect_goes served stored agrees seat place (text t)))

  include_means : (flush : Bool) (list : Attributes) (params : Params) (place : Place) → AttributesGo list (coercion_in page_coercions) → ParamsGo params
      → Means (node_form (run_of here).page (include flush list params place)) (λ dp s. node_mean served dp (include flush list params place) here s)
  include_means flush list params place ha hp =
      let c = coercion_in page_coercions in
      let names = names_in page_coercions list in
      let n = param_count params in
      with_attributes list c ha (λ ds g.
      let p = or_null (last_at (codes "page") g.named) in
      let target = address_given served stored levels Below here seat seated c names ds g (codes "page") in
      goes_as (λ dp s. with_params served dp params here (λ ps s2. include_mean served dp place (run_of here) (text_in (Some p)) ps (flush_if flush s2)) s
      ∙ ap (λ t. then_do (params_mean served dp params here s) (λ ps s2. include_mean served dp place (run_of here) t ps (flush_if flush s2))) target)
      (both_so (λ ps. length ps ≡ n) (page_form place names n (params_form (run_of here).page params)) (both (counted (address_is n) nothing) (calls (included_page flush n) place))
      (λ dp s. pairs_counted served dp params here s)
      (addressed_goes served stored levels Below here seat seated place (codes "page") params c names ds g hp)
      (λ ps e. both_goes (counted (address_is n) nothing) (calls (included_page flush n) place) (counted_goes (address_is n) (nothing_goes {st = λ (u : Unit {0}). onto (p ∷ flat ps) []} tt))
      (λ u. include_goes served stored agrees here seat same place flush n (p ∷ flat ps) (address_length p ps n e)))))

  forward_means : (list : Attributes) (params : Params) (place : Place) → AttributesGo list (coercion_in page_coercions) → ParamsGo params
      → Means (node_form (run_of here).page (forward list params place)) (λ dp s. node_mean served dp (forward list params place) here s)
  forward_means list params place ha hp =
      let c = coercion_in page_coercions in
      let names = names_in page_coercions list in
      let n = param_count params in
      with_attributes list c ha (λ ds g.
      let p = or_null (last_at (codes "page") g.named) in
      let target = address_given served stored levels Below here seat seated c names ds g (codes "page") in
      goes_as (λ dp s. with_params served dp params here (λ ps s2. forward_mean served dp place (run_of here) (text_in (Some p)) ps s2) s
      ∙ ap (λ t. then_do (params_mean served dp params here s) (λ ps s2. forward_mean served dp place (run_of here) t ps s2)) target)
      (both_so (λ ps. length ps ≡ n) (page_form place names n (params_form (run_of here).page params)) (both (counted (address_is n) nothing) (forwards_to n place))
      (λ dp s. pairs_counted served dp params here s)
      (addressed_goes served stored levels Below here seat seated place (codes "page") params c names ds g hp)
      (λ ps e. both_goes (counted (address_is n) nothing) (forwards_to n place) (counted_goes (address_is n) (nothing_goes {st = λ (u : Unit {0}). onto (p ∷ flat ps) []} tt))
      (λ u. forward_goes served stored agrees here seat same place n (p ∷ flat ps) (address_length p ps n e)))))

  -- the call of a tag file, where the unit has it
  call_means : (path : List ℕ) (list : Attributes) (b : Body) (place : Place) → ((c : List ℕ → Coercion) → AttributesGo list c) → (x : Option TagFile) → tag_at path (run_of here).page.tags ≡ x
      → Means (tag_form place path x list (attributes_form (run_of here).page list) (handed_form (run_of here).page b place) (fragments_form (run_of here).page list))
      (λ dp s. tag_mean dp place x list b here (attributes_mean served dp list here) s)
  call_means path list b place ha None e = nothing_goes {st = λ (u : Unit {0}). []} tt
  call_means path list b place ha (Some tag) e =
      with_attributes list (coercion_by tag) (ha (coercion_by tag))
      (λ ds g. tag_goes served stored agrees here seat same place path tag e list b (evaluated_names (coercion_by tag) list) ds
      (given_length (coercion_by tag) (evaluated_names (coercion_by tag) list) ds g))

  mutual
    -- the form of a node means the node behind its visits
    node_goes : (n : Node) → Means (node_form (run_of here).page n) (λ dp s. Behind dp n s)
    node_goes (template t place) = does_none (op.Write t) place [] (λ s. put_text place t s) refl (λ s. refl)
    node_goes (shown e place) = shown_goes served stored levels Below here seat seated place (value_goes served stored levels Below here seat seated place e)
    node_goes (out list body place) =
        with_attributes list (coercion_in out_coercions) (attributes_go list (coercion_in out_coercions))
        (λ ds g. out_goes served stored levels Below here seat seated place (names_in out_coercions list) ds g (nodes_go body))
    node_goes (set x list body place) =
        with_attributes list (coercion_in set_coercions) (attributes_go list (coercion_in set_coercions))
        (λ ds g. set_goes served stored levels Below here seat seated place x (coercion_in set_coercions) (names_in set_coercions list) ds g (nodes_go body))
    node_goes (set_entry target list body place) =
        with_attributes list (coercion_in set_coercions) (attributes_go list (coercion_in set_coercions))
        (λ ds g. set_entry_goes served stored levels Below here seat seated place target (coercion_in set_coercions) (names_in set_coercions list) ds g (nodes_go body))
    node_goes (remove x place) = removes_goes served stored levels Below here seat seated place x.scope x.name
    node_goes (catch x body place) = caught_goes place x (nodes_go body)
    node_goes (when_true x list body place) =
        with_attributes list (coercion_in test_coercions) (attributes_go list (coercion_in test_coercions))
        (λ ds g. if_goes served stored levels Below here seat seated place x (coercion_in test_coercions) (names_in test_coercions list) ds g (nodes_go body))
    node_goes (choose branches place) = branches_go branches
    node_goes (each x status list body place) =
        with_attributes list (coercion_in each_coercions) (attributes_go list (coercion_in each_coercions))
        (λ ds g. looped_goes (loop_kind over.Items (names_in each_coercions list) x status) place ds (given_length (coercion_in each_coercions) (names_in each_coercions list) ds g) (nodes_go body))
    node_goes (each_token x status list body place) =
        with_attributes list (coercion_in token_coercions) (attributes_go list (coercion_in token_coercions))
        (λ ds g. looped_goes (loop_kind over.Tokens (names_in token_coercions list) x status) place ds
        (given_length (coercion_in token_coercions) (names_in token_coercions list) ds g) (nodes_go body))
    node_goes (import x list params place) = import_means x list params place (attributes_go list (coercion_in url_coercions)) (params_go params)
    node_goes (url x list params place) = url_means x list params place (attributes_go list (coercion_in url_coercions)) (params_go params)
    node_goes (redirect list params place) = redirect_means list params place (attributes_go list (coercion_in url_coercions)) (params_go params)
    node_goes (include flush list params place) = include_means flush list params place (attributes_go list (coercion_in page_coercions)) (params_go params)
    node_goes (forward list params place) = forward_means list params place (attributes_go list (coercion_in page_coercions)) (params_go params)
    node_goes (use_bean name sc class body place) =
        goes_as (λ dp s. ap (λ d. bean_in place (held_scope sc) name d (nodes_mean served dp body here) s) (datum_of-value_of (bean_of (run_of here).page class)))
        (ensured_goes place (scoped sc name) (value_of (bean_of (run_of here).page class)) (nodes_go body))
    node_goes (get_property name property place) = get_property_goes served stored levels Below here seat seated place name property
    node_goes (set_property name property list place) =
        with_attributes list (coercion_in []) (attributes_go list (coercion_in []))
        (λ ds g. property_goes served stored levels Below here seat seated place (value_place list place) name property (coercion_in []) (names_in [] list) ds g)
    node_goes (group body place) = nodes_go body
    node_goes (do_body x place) = kept_in_goes served stored levels Below here seat seated place x (own_body_goes served stored agrees here seat same place)
    node_goes (invoke name x place) = kept_in_goes served stored levels Below here seat seated place x (own_fragment_goes served stored agrees here seat same name place)
    node_goes (call path list b place) = call_means path list b place (λ c. attributes_go list c) (tag_at path (run_of here).page.tags) refl

    pub nodes_go : (ns : Nodes) → Means (nodes_form (run_of here).page ns) (λ dp s. nodes_mean served dp ns here s)
    nodes_go no_nodes = nothing_goes {st = λ (u : Unit {0}). []} tt
    nodes_go (more_nodes n rest) = visits_node n (node_goes n) (nodes_go rest)

    attributes_go : (list : Attributes) (c : List ℕ → Coercion) → AttributesGo list c
    attributes_go no_attributes c = nothing_goes {st = λ ds. onto ds []} []
    attributes_go (written name parts place rest) c =
        with_value_goes served stored levels Below here seat seated (c name) name (evaluated_names c rest) place
        (parts_goes served stored levels Below here seat seated place parts) (attributes_go rest c)
    attributes_go (given name trim nodes place rest) c =
        with_value_goes served stored levels Below here seat seated (c name) name (evaluated_names c rest) place
        (visited_goes served stored levels Below here seat seated place (given_goes served stored levels Below here seat seated place trim (nodes_go nodes))) (attributes_go rest c)

    params_go : (params : Params) → ParamsGo params
    params_go no_params = nothing_goes {st = λ ps. onto (flat ps) []} []
    params_go (param list body place rest) =
        more_params_go served stored levels Below here seat seated list body place rest (λ dp s. attributes_given list (coercion_in param_coercions) dp s)
        (attributes_go list (coercion_in param_coercions)) (nodes_go body) (params_go rest)

    branches_go : (branches : Branches) → Means (branches_form (run_of here).page branches) (λ dp s. branches_mean served dp branches here s)
    branches_go no_branches = nothing_goes {st = λ (u : Unit {0}). []} tt
    branches_go (when list body place rest) =
        visited_goes served stored levels Below here seat seated place (with_attributes list (coercion_in test_coercions) (attributes_go list (coercion_in test_coercions))
        (λ ds g. tests_goes served stored levels Below here seat seated (λ b dp s. either b (nodes_mean served dp body here) (branches_mean served dp rest here) s) place
        (coercion_in test_coercions) (names_in test_coercions list) ds g (nodes_go body) (branches_go rest)))
    branches_go (otherwise body place rest) = visited_goes served stored levels Below here seat seated place (nodes_go body)
