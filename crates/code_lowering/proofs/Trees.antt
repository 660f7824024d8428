-- The forms of expressions mean the expressions.
use Rattle.std.proofs.Common.{◌≡◌, ℕ, zero, suc, ◌+◌, ◌*◌, ◌<◌, Bool, true, false, List, [], ◌∷◌, ◌++◌, length, Some, None, Option, Ok, Err, refl, sym, ap, ◌∙◌, arith, nat_lt, max, true≢false}
use Rattle.std.proofs.lemmas.Bool.Decides.{nat_tests}
use Rattle.std.specs.Prelude.{◌||◌, if◌then◌else◌}
use Rattle.el_coercion.specs.Text.{text_of}
use Rattle.el_coercion.specs.Truth.{truth_of}
use Rattle.el_ops.specs.Indexing.{index_of}
use Rattle.el_ops.specs.Operators.{unary_of, binary_of}
use Rattle.el_reader.specs.Tree.{Tree, literal, name, call, list, map, index, unary, binary, choice, Trees, no_trees, more_trees, Pairs, no_pairs, more_pairs}
use Rattle.jstl_functions.specs.Functions.{and_then, function_value, argument, called, measured}
use Rattle.page_code.specs.declared.op.Op.TheVariants as op
use Rattle.page_code.specs.declared.operands.Coercion.TheVariants as coercion
use Rattle.page_code.specs.declared.operands.HeaderObject.TheVariants as header_object
use Rattle.page_meaning.specs.Attributes.{coerced, to_truth}
use Rattle.page_meaning.specs.Context.{Served, Here, run_of, is_strict, Deeper}
use Rattle.page_meaning.specs.Expressions as meaning
use Rattle.page_meaning.specs.Expressions.{ev, ev_all, ev_pairs, truth_in, joined_by, indexed, keyed_object, called_mean, named_value, variable_or_step, record_of}
use Rattle.page_meaning.specs.Implicit.{Implicit, Keyed, held_scope, application_scope, header, header_values, keyed, page_context, param, param_values, cookie, init_param, implicit_named, implicit_value, entry_under, entry_of_object}
use Rattle.page_meaning.specs.Request.{first_values, all_values}
use Rattle.page_meaning.specs.State.{State}
use Rattle.page_meaning.specs.Went.{Did, Went, Well, then_do, either, result_of}
use Rattle.page_meaning.specs.Work.{visit, visited}
use Rattle.page_table.specs.Operands.{implicit_of, keyed_scope}
use Rattle.page_table.specs.Operations.{leaving_none, leaving_one, visits as visits_mean, pairs_in}
use Rattle.page_table.specs.Program.{Stored, Serving, served_of}
use Rattle.page_table.specs.Seat.{Seat, here_of}
use Rattle.pg_text.specs.declared.place.Place.{Place}
use Rattle.pg_value.proofs.Inverses.{datum_of-value_of}
use Rattle.pg_value.specs.Datum as datum
use Rattle.pg_value.specs.Datum.{Datum, null, truth, number, text, rec, items_of, entries_of}
use Rattle.pg_value.specs.Function.{arity_of, function_named}
use Rattle.pg_value.specs.Depth.{depth_of}
use Rattle.pg_value.specs.Limits.{is_over, max_weight, max_depth}
use Rattle.pg_value.specs.Value.{value_of}
use Rattle.pg_value.specs.Weight.{weight_of}
use Rattle.pg_value.specs.declared.fault.RunFault.TheVariants as fault
use Rattle.pg_value.specs.declared.function.Function.{Function}
use Rattle.pg_value.specs.declared.function.Function.TheVariants as function
use Rattle.pg_value.specs.declared.operators.BinOp.{BinOp}
use Rattle.pg_value.specs.declared.operators.BinOp.TheVariants as binary_op
use Rattle.pg_value.specs.declared.scope.Scope.{Scope}
use Rattle.pg_value.specs.declared.scope.Scope.TheVariants as scope
use Rattle.scopes.specs.Scopes.{found}
use Rattle.scopes.specs.declared.held_scope.HeldScope.TheVariants as held
use Rattle.code_lowering.specs.Expressions.{visits, constant, literal_form, coerces, as_truth, object_of, entry_form, name_form, index_form, binary_form, fitted, call_form, tree_count, pair_count, first_visits, value_form, tree_form, trees_form, pairs_form}
use Rattle.code_forms.specs.Forms.{Form, both, above, does, counted, twice_is}
use Rattle.code_lowering.proofs.Goes.{Goes, Runs0, Runs1, nothing_goes, both_goes, both_so, goes_as, leaves_as, starts_as, counted_goes, above_goes, does_one, does_none, chosen_either, well}
use Rattle.code_lowering.proofs.Joins.{then_same, then_then, then_well, yields_then, yields_behind, maps_goes, answered_goes}
use Rattle.code_lowering.proofs.Parts.{Yields, onto, onto_append}

-- the request's own words of the table are those of the meaning
pub record SeatOf (here : Here) (seat : Seat) : Type 0 where
  pub params : (run_of (here_of seat)).params ≡ (run_of here).params
  pub strict : is_strict (here_of seat) ≡ is_strict here

-- the table serves the request that the meaning serves
abbrev pub serving_by : Served → (stored : List ℕ → Stored) → Serving
serving_by served stored = record { request = served.request; stored = stored; exception = served.exception }

lt_yes : (a b : ℕ) → a < b → nat_lt a b ≡ true
lt_yes a b h = grind (arith, nat_tests)

lt_of : (a b : ℕ) → nat_lt a b ≡ true → a < b
lt_of a b h = grind (arith, nat_tests)

or_true : (a : Bool) → (a || true) ≡ true
or_true true = refl
or_true false = refl

-- a list is too large where its item is
over_list : (d : Datum) → is_over d ≡ true → is_over (datum.list (items_of (d ∷ []))) ≡ true
over_list d h = go (nat_lt max_weight (weight_of d)) (nat_lt max_depth (depth_of d)) refl refl h
  where
    go : (a b : Bool) → nat_lt max_weight (weight_of d) ≡ a → nat_lt max_depth (depth_of d) ≡ b → (a || b) ≡ true → is_over (datum.list (items_of (d ∷ []))) ≡ true
    go true b e f h =
        let more : max_weight < 16 + (weight_of d + 0) = let l = lt_of max_weight (weight_of d) e in omega (arith, l) in
        ap (λ t. t || nat_lt max_depth (1 + max (depth_of d) 0)) (lt_yes max_weight (16 + (weight_of d + 0)) more)
    go false true e f h =
        let deep : max_depth < 1 + max (depth_of d) 0 = let l = lt_of max_depth (depth_of d) f in omega (arith, l) in
        ap (λ t. nat_lt max_weight (16 + (weight_of d + 0)) || t) (lt_yes max_depth (1 + max (depth_of d) 0) deep) ∙ or_true (nat_lt max_weight (16 + (weight_of d + 0)))
    go false false e f h = absurd (true≢false (sym h))

measured_by : (d : Datum) (b : Bool) → is_over d ≡ b → measured d ≡ (if b then Err fault.ValueTooLarge else Ok d)
measured_by d b h = ap (λ t. if t then Err fault.ValueTooLarge else Ok d) h

-- so many values as if there were so many
abbrev pub resized : ℕ → List Datum → List Datum
resized zero ds = []
resized (suc k) [] = null ∷ resized k []
resized (suc k) (d ∷ ds) = d ∷ resized k ds

resized_length : (k : ℕ) (ds : List Datum) → length (resized k ds) ≡ k
resized_length zero ds = refl
resized_length (suc k) [] = ap suc (resized_length k [])
resized_length (suc k) (d ∷ ds) = ap suc (resized_length k ds)

one_used : {R : Type 0} (g : Datum → R) (ds : List Datum) → g (argument 0 (resized 1 ds)) ≡ g (argument 0 ds)
one_used g [] = refl
one_used g (a ∷ ds) = refl

two_used : {R : Type 0} (g : Datum → Datum → R) (ds : List Datum) → g (argument 0 (resized 2 ds)) (argument 1 (resized 2 ds)) ≡ g (argument 0 ds) (argument 1 ds)
two_used g [] = refl
two_used g (a ∷ []) = refl
two_used g (a ∷ b ∷ ds) = refl

three_used : {R : Type 0} (g : Datum → Datum → Datum → R) (ds : List Datum)
    → g (argument 0 (resized 3 ds)) (argument 1 (resized 3 ds)) (argument 2 (resized 3 ds)) ≡ g (argument 0 ds) (argument 1 ds) (argument 2 ds)
three_used g [] = refl
three_used g (a ∷ []) = refl
three_used g (a ∷ b ∷ []) = refl
three_used g (a ∷ b ∷ c ∷ ds) = refl

-- a function looks at no more arguments than it takes
called_resized : (f : Function) (ds : List Datum) → called f (resized (arity_of f) ds) ≡ called f ds
called_resized function.Contains ds = two_used (λ a b. and_then (function_value function.Contains a b null) measured) ds
called_resized function.ContainsIgnoreCase ds = two_used (λ a b. and_then (function_value function.ContainsIgnoreCase a b null) measured) ds
called_resized function.EndsWith ds = two_used (λ a b. and_then (function_value function.EndsWith a b null) measured) ds
called_resized function.StartsWith ds = two_used (λ a b. and_then (function_value function.StartsWith a b null) measured) ds
called_resized function.EscapeXml ds = one_used (λ a. and_then (function_value function.EscapeXml a null null) measured) ds
called_resized function.IndexOf ds = two_used (λ a b. and_then (function_value function.IndexOf a b null) measured) ds
called_resized function.Join ds = two_used (λ a b. and_then (function_value function.Join a b null) measured) ds
called_resized function.Length ds = one_used (λ a. and_then (function_value function.Length a null null) measured) ds
called_resized function.Replace ds = three_used (λ a b c. and_then (function_value function.Replace a b c) measured) ds
called_resized function.Split ds = two_used (λ a b. and_then (function_value function.Split a b null) measured) ds
called_resized function.Substring ds = three_used (λ a b c. and_then (function_value function.Substring a b c) measured) ds
called_resized function.SubstringAfter ds = two_used (λ a b. and_then (function_value function.SubstringAfter a b null) measured) ds
called_resized function.SubstringBefore ds = two_used (λ a b. and_then (function_value function.SubstringBefore a b null) measured) ds
called_resized function.ToLowerCase ds = one_used (λ a. and_then (function_value function.ToLowerCase a null null) measured) ds
called_resized function.ToUpperCase ds = one_used (λ a. and_then (function_value function.ToUpperCase a null null) measured) ds
called_resized function.Trim ds = one_used (λ a. and_then (function_value function.Trim a null null) measured) ds

-- pairs as the values that were pushed for them
abbrev pub flat : List (Datum × Datum) → List Datum
flat [] = []
flat (p ∷ ps) = p.0 ∷ p.1 ∷ flat ps

pub pairs_flat : (ps : List (Datum × Datum)) → pairs_in (flat ps) ≡ ps
pairs_flat [] = refl
pairs_flat (p ∷ ps) = ap (λ qs. p ∷ qs) (pairs_flat ps)

pub flat_length : (ps : List (Datum × Datum)) (n : ℕ) → length ps ≡ n → length (flat ps) ≡ 2 * n
flat_length [] n h = omega (arith, h)
flat_length (p ∷ ps) n h = let i = flat_length ps (length ps) refl in omega (arith, h, i)

abbrev Counts : {A : Type 0} → ℕ → List A → Type 0
Counts n xs = length xs ≡ n

-- a part does so many visits, and then the other
abbrev pub Visits : {A : Type 0} → Place → ℕ → (part value : State → Went A) → Type 0
Visits place n part value = (s : State) → part s ≡ then_do (visits_mean place n s) (λ u s1. value s1)

-- one visit more
pub one_more : {A : Type 0} (place : Place) (n : ℕ) (part value : State → Went A) → Visits place n part value → Visits place (suc n) (λ s. visited place part s) value
one_more place n part value h s =
    then_same (visit place s) (λ u s1. part s1) (λ u s1. then_do (visits_mean place n s1) (λ u s2. value s2)) (λ u s1. h s1)
    ∙ sym (then_then (visit place s) (λ u s1. visits_mean place n s1) (λ u s1. value s1))

pub one_visit : {A : Type 0} (place : Place) (part : State → Went A) → Visits place 1 (λ s. visited place part s) part
one_visit place part s = one_more place 0 part part (λ s1. refl) s

-- what goes on with the part goes on with the other
pub visits_then : {A B : Type 0} (place : Place) (n : ℕ) (part value : State → Went A) (k : A → State → Went B) → Visits place n part value
    → Visits place n (λ s. then_do (part s) k) (λ s. then_do (value s) k)
visits_then place n part value k h s = ap (λ w. then_do w k) (h s) ∙ then_then (visits_mean place n s) (λ u s1. value s1) k

truth_visits : (place : Place) (n : ℕ) (part value : State → Went Datum) → Visits place n part value → Visits place n (truth_in place part) (truth_in place value)
truth_visits place n part value h s = visits_then place n part value (λ x s1. result_of place (truth_of x) s1) h s

joined_visits : (place : Place) (o : BinOp) (n : ℕ) (left value right : State → Went Datum) → Visits place n left value
    → Visits place n (joined_by place o left right) (joined_by place o value right)
joined_visits place binary_op.And n left value right h s = visits_then place n (truth_in place left) (truth_in place value) _ (truth_visits place n left value h) s
joined_visits place binary_op.Or n left value right h s = visits_then place n (truth_in place left) (truth_in place value) _ (truth_visits place n left value h) s
joined_visits place o n left value right h s = visits_then place n left value _ h s

-- an index behind its visits
abbrev indexed_value : Served → Place → Option Keyed → (left right : State → Went Datum) → State → Went Datum
indexed_value served place (Some object) left right s = then_do (right s) (λ y s1. entry_of_object served place object y s1)
indexed_value served place None left right s = then_do (left s) (λ x s1. then_do (right s1) (λ y s2. result_of place (index_of x y) s2))

indexed_visits : (served : Served) (place : Place) (x : Option Keyed) (n : ℕ) (left value right : State → Went Datum) → ((object : Keyed) → x ≡ Some object → n ≡ 1)
    → Visits place n left value → Visits place n (indexed served place x left right) (indexed_value served place x value right)
indexed_visits served place None n left value right once h s = visits_then place n left value _ h s
indexed_visits served place (Some object) n left value right once h s =
    one_visit place (indexed_value served place (Some object) value right) s
    ∙ ap (λ m. then_do (visits_mean place m s) (λ u s1. indexed_value served place (Some object) value right s1)) (sym (once object refl))

keyed_once : (t : Tree) (object : Keyed) → keyed_object t ≡ Some object → first_visits t ≡ 1
keyed_once (name n) object e = refl
keyed_once other object e = absurd (cc)

-- what an expression means behind its first visits
abbrev pub value_mean : Served → Here → Place → Tree → State → Went Datum
value_mean served here place (literal d) s = result_of place (measured d) s
value_mean served here place (name n) s = named_value served here place n (implicit_named n) s
value_mean served here place (call prefix n args) s = called_mean place (function_named n) (ev_all served here place args) s
value_mean served here place (list items) s = then_do (ev_all served here place items s) (λ ds s1. result_of place (measured (datum.list (items_of ds))) s1)
value_mean served here place (map pairs) s = then_do (ev_pairs served here place pairs s) (λ ps s1. result_of place (record_of ps) s1)
value_mean served here place (index a b) s = indexed_value served place (keyed_object a) (value_mean served here place a) (ev served here place b) s
value_mean served here place (unary o a) s = then_do (value_mean served here place a s) (λ x s1. result_of place (unary_of o x) s1)
value_mean served here place (binary o a b) s = joined_by place o (value_mean served here place a) (ev served here place b) s
value_mean served here place (choice a b c) s = then_do (truth_in place (value_mean served here place a) s) (λ t s1. either t (ev served here place b) (ev served here place c) s1)

-- an expression is its first visits and then its value
pub first_then : (served : Served) (here : Here) (place : Place) (t : Tree) → Visits place (first_visits t) (ev served here place t) (value_mean served here place t)
first_then served here place (index a b) s =
    one_more place (first_visits a) (indexed served place (keyed_object a) (ev served here place a) (ev served here place b)) (value_mean served here place (index a b))
    (indexed_visits served place (keyed_object a) (first_visits a) (ev served here place a) (value_mean served here place a) (ev served here place b) (keyed_once a) (first_then served here place a)) s
first_then served here place (unary o a) s =
    one_more place (first_visits a) (λ s1. then_do (ev served here place a s1) (λ x s2. result_of place (unary_of o x) s2)) (value_mean served here place (unary o a))
    (visits_then place (first_visits a) (ev served here place a) (value_mean served here place a) (λ x s2. result_of place (unary_of o x) s2) (first_then served here place a)) s
first_then served here place (binary o a b) s =
    one_more place (first_visits a) (joined_by place o (ev served here place a) (ev served here place b)) (value_mean served here place (binary o a b))
    (joined_visits place o (first_visits a) (ev served here place a) (value_mean served here place a) (ev served here place b) (first_then served here place a)) s
first_then served here place (choice a b c) s =
    let chosen : Bool → State → Went Datum = λ t s2. either t (ev served here place b) (ev served here place c) s2 in
    one_more place (first_visits a) (λ s1. then_do (truth_in place (ev served here place a) s1) chosen) (value_mean served here place (choice a b c))
    (visits_then place (first_visits a) (truth_in place (ev served here place a)) (truth_in place (value_mean served here place a)) chosen
    (truth_visits place (first_visits a) (ev served here place a) (value_mean served here place a) (first_then served here place a))) s
first_then served here place other s = one_visit place (value_mean served here place other) s

module _ (served : Served) (stored : List ℕ → Stored) (deep : ℕ → Deeper) (Calls : ℕ → Type 0) (here : Here) (seat : Seat) (same : SeatOf here seat) where
  abbrev serving : Serving
  serving = serving_by served stored

  abbrev pub Does1 : {n : ℕ} → Form n 1 → List Datum → (State → Went Datum) → Type 0
  Does1 f from m = Runs1 serving seat deep Calls f from (λ dp s. m s)

  pub visit_goes : (place : Place) → Runs0 serving seat deep Calls (visits 1 place) [] (λ dp s. visit place s)
  visit_goes place = does_none (op.Visit 1) place [] (λ s. visit place s) refl (λ s. ap leaving_none (then_well (visit place s)))

  -- so many visits
  pub visits_go : (place : Place) (n : ℕ) → Runs0 serving seat deep Calls (visits n place) [] (λ dp s. visits_mean place n s)
  visits_go place n = does_none (op.Visit n) place [] (λ s. visits_mean place n s) refl (λ s. refl)

  -- a part behind a visit
  pub visited_goes : {k : ℕ} {A : Type 0} {f : Form 0 k} {st : A → List Datum} {m : Deeper → State → Went A} (place : Place) → Goes serving seat deep Calls f [] st m
      → Goes serving seat deep Calls (both (visits 1 place) f) [] st (λ dp s. visited place (m dp) s)
  visited_goes {f = f} place h = both_goes (visits 1 place) f (visit_goes place) (λ u. h)

  pub constant_goes : (place : Place) (d : Datum) → Does1 (constant place d) [] (λ s. Well d s)
  constant_goes place d = does_one (op.Const (value_of d)) place [] (λ s. Well d s) refl (λ s. ap (λ x. Well (x ∷ []) s) (datum_of-value_of d))

  -- the same, with its value known
  pub constant_puts : (place : Place) (d : Datum) → Goes serving seat deep Calls (constant place d) [] (λ u. d ∷ []) (λ dp s. well s)
  constant_puts place d = let h = constant_goes place d in record { by = λ sh o fits calls. record { by = λ pc s has. record { by = ((h.by sh o fits calls).by pc s has).by } } }

  literal_goes : (place : Place) (d : Datum) (b : Bool) → is_over d ≡ b → Does1 (literal_form place b d) [] (λ s. result_of place (measured d) s)
  literal_goes place d false h = goes_as (λ dp s. sym (ap (λ r. result_of place r s) (measured_by d false h))) (constant_goes place d)
  literal_goes place d true h =
      let list_fault : (s : State) → result_of place (measured (datum.list (items_of (d ∷ [])))) s ≡ result_of place (measured d) s =
      λ s. ap (λ r. result_of place r s) (measured_by (datum.list (items_of (d ∷ []))) true (over_list d h)) ∙ sym (ap (λ r. result_of place r s) (measured_by d true h)) in
      goes_as (λ dp s. list_fault s)
      (both_goes (constant place d) (does (op.MakeList 1) place) (constant_goes place d)
      (λ x. does_one (op.MakeList 1) place (x ∷ []) (λ s. result_of place (measured (datum.list (items_of (x ∷ [])))) s) refl (λ s. refl)))

  implicit_same : (place : Place) (object : Implicit) (s : State)
      → implicit_value (served_of serving) (here_of seat) place (implicit_of (object_of object)) s ≡ implicit_value served here place object s
  implicit_same place (keyed (held_scope held.Page)) s = refl
  implicit_same place (keyed (held_scope held.Request)) s = refl
  implicit_same place (keyed (held_scope held.Session)) s = refl
  implicit_same place (keyed application_scope) s = refl
  implicit_same place (keyed header) s = refl
  implicit_same place (keyed header_values) s = refl
  implicit_same place page_context s = refl
  implicit_same place param s = ap (λ ps. Well (rec (entries_of (first_values ps))) s) same.params
  implicit_same place param_values s = ap (λ ps. Well (rec (entries_of (all_values ps))) s) same.params
  implicit_same place cookie s = refl
  implicit_same place init_param s = refl

  name_goes : (place : Place) (n : List ℕ) (x : Option Implicit) → Does1 (name_form place n x) [] (λ s. named_value served here place n x s)
  name_goes place n (Some object) = does_one (op.Implicit (object_of object)) place [] (λ s. implicit_value served here place object s) refl (λ s. ap leaving_one (implicit_same place object s))
  name_goes place n None =
      does_one (op.Find n) place [] (λ s. variable_or_step (is_strict here) place n (found s.scopes n) s) refl
      (λ s. ap (λ b. leaving_one (variable_or_step b place n (found s.scopes n) s)) same.strict)

  under_same : (place : Place) (k : Keyed) (key : List ℕ) (s : State) → entry_under (served_of serving) place k key s ≡ entry_under served place k key s
  under_same place (held_scope sc) key s = refl
  under_same place application_scope key s = refl
  under_same place header key s = refl
  under_same place header_values key s = refl

  entry_same : (place : Place) (k : Keyed) (d : Datum) (s : State) → entry_of_object (served_of serving) place k d s ≡ entry_of_object served place k d s
  entry_same place k null s = refl
  entry_same place k (truth b) s = then_same (result_of place (text_of (truth b)) s) _ _ (λ key s1. under_same place k key s1)
  entry_same place k (number n) s = then_same (result_of place (text_of (number n)) s) _ _ (λ key s1. under_same place k key s1)
  entry_same place k (text t) s = then_same (result_of place (text_of (text t)) s) _ _ (λ key s1. under_same place k key s1)
  entry_same place k (datum.list items) s = then_same (result_of place (text_of (datum.list items)) s) _ _ (λ key s1. under_same place k key s1)
  entry_same place k (rec es) s = then_same (result_of place (text_of (rec es)) s) _ _ (λ key s1. under_same place k key s1)

  scope_goes : (place : Place) (sc : Scope) (k : Keyed) (d : Datum) → keyed_scope sc ≡ k → Does1 (does (op.ScopeIndex sc) place) (d ∷ []) (λ s. entry_of_object served place k d s)
  scope_goes place sc k d e =
      does_one (op.ScopeIndex sc) place (d ∷ []) (λ s. entry_of_object served place k d s) refl
      (λ s. ap (λ x. leaving_one (entry_of_object (served_of serving) place x d s)) e ∙ ap leaving_one (entry_same place k d s))

  entry_goes : (place : Place) (k : Keyed) (d : Datum) → Does1 (entry_form place k) (d ∷ []) (λ s. entry_of_object served place k d s)
  entry_goes place (held_scope held.Page) d = scope_goes place scope.Page (held_scope held.Page) d refl
  entry_goes place (held_scope held.Request) d = scope_goes place scope.Request (held_scope held.Request) d refl
  entry_goes place (held_scope held.Session) d = scope_goes place scope.Session (held_scope held.Session) d refl
  entry_goes place application_scope d = scope_goes place scope.Application application_scope d refl
  entry_goes place header d = does_one (op.HeaderIndex header_object.Header) place (d ∷ []) (λ s. entry_of_object served place header d s) refl (λ s. ap leaving_one (entry_same place header d s))
  entry_goes place header_values d =
      does_one (op.HeaderIndex header_object.HeaderValues) place (d ∷ []) (λ s. entry_of_object served place header_values d s) refl (λ s. ap leaving_one (entry_same place header_values d s))

  -- a value on which another stands
  pub on_top : {k : ℕ} {A : Type 0} {f : Form 0 k} {st : A → List Datum} {m : Deeper → State → Went A} (d : Datum) → Goes serving seat deep Calls f [] st m
      → Goes serving seat deep Calls (above 1 f) (d ∷ []) (λ a. st a ++ d ∷ []) m
  on_top d h = above_goes 1 (d ∷ []) h

  index_goes : (place : Place) (x : Option Keyed) (f g : Form 0 1) (mf mg : State → Went Datum) → Does1 f [] mf → Does1 g [] mg
      → Does1 (index_form place x f g) [] (λ s. indexed_value served place x mf mg s)
  index_goes place None f g mf mg hf hg =
      both_goes f _ hf (λ x. both_goes (above 1 g) _ (on_top x hg)
      (λ y. does_one op.Index place (x ∷ y ∷ []) (λ s. result_of place (index_of x y) s) refl (λ s. refl)))
  index_goes place (Some k) f g mf mg hf hg = both_goes g _ hg (λ y. entry_goes place k y)

  -- a value as a truth value
  pub truth_goes : {n : ℕ} {f : Form n 1} {from : List Datum} {m : Deeper → State → Went Datum} (place : Place) → Runs1 serving seat deep Calls f from m
      → Goes serving seat deep Calls (both f (coerces coercion.Truth place)) from (λ t. truth t ∷ []) (λ dp s. truth_in place (m dp) s)
  truth_goes {f = f} place h = both_goes f (coerces coercion.Truth place) h
      (λ x. answered_goes place truth (truth_of x) (does_one (op.Coerce coercion.Truth) place (x ∷ []) (λ s. result_of place (coerced to_truth x) s) refl (λ s. refl)))

  as_truth_goes : (place : Place) (f : Form 0 1) (m : State → Went Datum) → Does1 f [] m → Does1 (as_truth place f) [] (λ s. meaning.as_truth place m s)
  as_truth_goes place f m h = maps_goes truth (λ t. refl) (truth_goes place h)

  both_sides : (place : Place) (o : BinOp) (f g : Form 0 1) (mf mg : State → Went Datum) → Does1 f [] mf → Does1 g [] mg
      → Does1 (both f (both (above 1 g) (does (op.Binary o) place))) [] (λ s. then_do (mf s) (λ x s1. then_do (mg s1) (λ y s2. result_of place (binary_of o x y) s2)))
  both_sides place o f g mf mg hf hg =
      both_goes f _ hf (λ x. both_goes (above 1 g) _ (on_top x hg)
      (λ y. does_one (op.Binary o) place (x ∷ y ∷ []) (λ s. result_of place (binary_of o x y) s) refl (λ s. refl)))

  binary_goes : (place : Place) (o : BinOp) (f g : Form 0 1) (mf mg : State → Went Datum) → Does1 f [] mf → Does1 g [] mg → Does1 (binary_form place o f g) [] (λ s. joined_by place o mf mg s)
  binary_goes place binary_op.And f g mf mg hf hg =
      both_goes (as_truth place f) _ (truth_goes place hf) (λ t. chosen_either place t (as_truth_goes place g mg hg) (constant_goes place (truth false)))
  binary_goes place binary_op.Or f g mf mg hf hg =
      both_goes (as_truth place f) _ (truth_goes place hf) (λ t. chosen_either place t (constant_goes place (truth true)) (as_truth_goes place g mg hg))
  binary_goes place binary_op.Add f g mf mg hf hg = both_sides place binary_op.Add f g mf mg hf hg
  binary_goes place binary_op.Sub f g mf mg hf hg = both_sides place binary_op.Sub f g mf mg hf hg
  binary_goes place binary_op.Mul f g mf mg hf hg = both_sides place binary_op.Mul f g mf mg hf hg
  binary_goes place binary_op.Rem f g mf mg hf hg = both_sides place binary_op.Rem f g mf mg hf hg
  binary_goes place binary_op.Join f g mf mg hf hg = both_sides place binary_op.Join f g mf mg hf hg
  binary_goes place binary_op.Lt f g mf mg hf hg = both_sides place binary_op.Lt f g mf mg hf hg
  binary_goes place binary_op.Gt f g mf mg hf hg = both_sides place binary_op.Gt f g mf mg hf hg
  binary_goes place binary_op.Le f g mf mg hf hg = both_sides place binary_op.Le f g mf mg hf hg
  binary_goes place binary_op.Ge f g mf mg hf hg = both_sides place binary_op.Ge f g mf mg hf hg
  binary_goes place binary_op.Eq f g mf mg hf hg = both_sides place binary_op.Eq f g mf mg hf hg
  binary_goes place binary_op.Ne f g mf mg hf hg = both_sides place binary_op.Ne f g mf mg hf hg

  fitted_goes : (place : Place) (n k : ℕ) (ds : List Datum) → length ds ≡ n → Goes serving seat deep Calls (fitted place n k) (onto ds []) (λ u. onto (resized k ds) []) (λ dp s. well s)
  fitted_goes place zero zero [] e = nothing_goes {st = λ (u : Unit {0}). []} tt
  fitted_goes place zero (suc k) [] e =
      both_goes (constant place null) (above 1 (fitted place zero k)) (constant_puts place null)
      (λ u. leaves_as (λ v. onto_append (resized k []) [] (null ∷ [])) (on_top null (fitted_goes place zero k [] refl)))
  fitted_goes place zero k (d ∷ ds) e = absurd (omega (arith, e))
  fitted_goes place (suc n) k [] e = absurd (omega (arith, e))
  fitted_goes place (suc n) zero (d ∷ ds) e =
      both_goes (above 1 (fitted place n zero)) (does op.Pop place)
      (starts_as (onto_append ds [] (d ∷ [])) (above_goes 1 (d ∷ []) (fitted_goes place n zero ds (omega (arith, e)))))
      (λ u. does_none op.Pop place (d ∷ []) (λ s. well s) refl (λ s. refl))
  fitted_goes place (suc n) (suc k) (d ∷ ds) e =
      starts_as (onto_append ds [] (d ∷ [])) (leaves_as (λ u. onto_append (resized k ds) [] (d ∷ [])) (above_goes 1 (d ∷ []) (fitted_goes place n k ds (omega (arith, e)))))

  trees_counted : (place : Place) (es : Trees) (s : State) → Yields (Counts (tree_count es)) (ev_all served here place es s)
  trees_counted place no_trees s = refl
  trees_counted place (more_trees t rest) s =
      yields_then (Counts (tree_count (more_trees t rest))) (ev served here place t s) _ (λ x s1.
      yields_behind (Counts (tree_count rest)) (Counts (tree_count (more_trees t rest))) (ev_all served here place rest s1) _ (trees_counted place rest s1) (λ xs s2 h. ap suc h))

  pairs_counted : (place : Place) (es : Pairs) (s : State) → Yields (Counts (pair_count es)) (ev_pairs served here place es s)
  pairs_counted place no_pairs s = refl
  pairs_counted place (more_pairs k v rest) s =
      yields_then (Counts (pair_count (more_pairs k v rest))) (ev served here place k s) _ (λ x s1.
      yields_then (Counts (pair_count (more_pairs k v rest))) (ev served here place v s1) _ (λ y s2.
      yields_behind (Counts (pair_count rest)) (Counts (pair_count (more_pairs k v rest))) (ev_pairs served here place rest s2) _ (pairs_counted place rest s2) (λ ps s3 h. ap suc h)))

  abbrev AllGo : Place → Trees → Type 0
  AllGo place es = Goes serving seat deep Calls (trees_form place es) [] (λ ds. onto ds []) (λ dp s. ev_all served here place es s)

  abbrev PairsGo : Place → Pairs → Type 0
  PairsGo place es = Goes serving seat deep Calls (pairs_form place es) [] (λ ps. onto (flat ps) []) (λ dp s. ev_pairs served here place es s)

  call_goes : (place : Place) (x : Option Function) (es : Trees) → AllGo place es
      → Does1 (call_form place x (tree_count es) (trees_form place es)) [] (λ s. called_mean place x (λ s1. ev_all served here place es s1) s)
  call_goes place None es h = constant_goes place null
  call_goes place (Some f) es h =
      both_so (Counts (tree_count es)) (trees_form place es) _ (λ dp s. trees_counted place es s) h
      (λ ds e. goes_as (λ dp s. ap (λ r. result_of place r s) (called_resized f ds))
      (both_goes (fitted place (tree_count es) (arity_of f)) (does (op.Call f) place) (fitted_goes place (tree_count es) (arity_of f) ds e)
      (λ u. does_one (op.Call f) place (resized (arity_of f) ds) (λ s. result_of place (called f (resized (arity_of f) ds)) s) (resized_length (arity_of f) ds) (λ s. refl))))

  list_goes : (place : Place) (es : Trees) → AllGo place es
      → Does1 (both (trees_form place es) (does (op.MakeList (tree_count es)) place)) []
      (λ s. then_do (ev_all served here place es s) (λ ds s1. result_of place (measured (datum.list (items_of ds))) s1))
  list_goes place es h =
      both_so (Counts (tree_count es)) (trees_form place es) _ (λ dp s. trees_counted place es s) h
      (λ ds e. does_one (op.MakeList (tree_count es)) place ds (λ s. result_of place (measured (datum.list (items_of ds))) s) e (λ s. refl))

  map_goes : (place : Place) (es : Pairs) → PairsGo place es
      → Does1 (both (counted (twice_is (pair_count es)) (pairs_form place es)) (does (op.MakeMap (pair_count es)) place)) []
      (λ s. then_do (ev_pairs served here place es s) (λ ps s1. result_of place (record_of ps) s1))
  map_goes place es h =
      both_so (Counts (pair_count es)) (counted (twice_is (pair_count es)) (pairs_form place es)) _ (λ dp s. pairs_counted place es s) (counted_goes (twice_is (pair_count es)) h)
      (λ ps e. does_one (op.MakeMap (pair_count es)) place (flat ps) (λ s. result_of place (record_of ps) s) (flat_length ps (pair_count es) e)
      (λ s. ap (λ qs. leaving_one (result_of place (record_of qs) s)) (pairs_flat ps)))

  more_go : (place : Place) (t : Tree) (rest : Trees) → Does1 (tree_form place t) [] (λ s. ev served here place t s) → AllGo place rest → AllGo place (more_trees t rest)
  more_go place t rest ht hr =
      both_goes (tree_form place t) (above 1 (trees_form place rest)) ht
      (λ x. maps_goes (λ xs. x ∷ xs) (λ xs. onto_append xs [] (x ∷ [])) (on_top x hr))

  more_pairs_go : (place : Place) (k v : Tree) (rest : Pairs) → Does1 (tree_form place k) [] (λ s. ev served here place k s)
      → Does1 (tree_form place v) [] (λ s. ev served here place v s) → PairsGo place rest → PairsGo place (more_pairs k v rest)
  more_pairs_go place k v rest hk hv hr =
      both_goes (tree_form place k) _ hk (λ x. goes_as
      (λ dp s. then_then (ev served here place v s) _ _
      ∙ then_same (ev served here place v s) _ _ (λ y s1. then_then (ev_pairs served here place rest s1) (λ ps s2. Well (y, ps) s2) (λ q s2. Well ((x, q.0) ∷ q.1) s2)))
      (maps_goes {st2 = λ ps. onto (flat ps) []} (λ (q : Datum × List (Datum × Datum)). (x, q.0) ∷ q.1) (λ q. onto_append (flat q.1) (q.0 ∷ []) (x ∷ []))
      (on_top x (both_goes (tree_form place v) (above 1 (pairs_form place rest)) hv
      (λ y. maps_goes {st2 = λ (q : Datum × List (Datum × Datum)). onto (flat q.1) (q.0 ∷ [])} (λ ps. (y, ps)) (λ ps. onto_append (flat ps) [] (y ∷ [])) (on_top y hr))))))

  -- an expression from its value
  with_visits_goes : (place : Place) (t : Tree) → Does1 (value_form place t) [] (λ s. value_mean served here place t s) → Does1 (tree_form place t) [] (λ s. ev served here place t s)
  with_visits_goes place t h =
      goes_as (λ dp s. sym (first_then served here place t s)) (both_goes (visits (first_visits t) place) (value_form place t) (visits_go place (first_visits t)) (λ u. h))

  mutual
    -- the form of the value of an expression means the value
    pub value_goes : (place : Place) (e : Tree) → Does1 (value_form place e) [] (λ s. value_mean served here place e s)
    value_goes place (literal d) = literal_goes place d (is_over d) refl
    value_goes place (name n) = name_goes place n (implicit_named n)
    value_goes place (call prefix n es) = call_goes place (function_named n) es (trees_go place es)
    value_goes place (list es) = list_goes place es (trees_go place es)
    value_goes place (map es) = map_goes place es (pairs_go place es)
    value_goes place (index a b) =
        index_goes place (keyed_object a) (value_form place a) (tree_form place b) (λ s. value_mean served here place a s) (λ s. ev served here place b s) (value_goes place a)
        (with_visits_goes place b (value_goes place b))
    value_goes place (unary o a) =
        both_goes (value_form place a) (does (op.Unary o) place) (value_goes place a)
        (λ x. does_one (op.Unary o) place (x ∷ []) (λ s. result_of place (unary_of o x) s) refl (λ s. refl))
    value_goes place (binary o a b) =
        binary_goes place o (value_form place a) (tree_form place b) (λ s. value_mean served here place a s) (λ s. ev served here place b s) (value_goes place a)
        (with_visits_goes place b (value_goes place b))
    value_goes place (choice a b c) =
        both_goes (as_truth place (value_form place a)) _ (truth_goes place (value_goes place a))
        (λ t. chosen_either place t (with_visits_goes place b (value_goes place b)) (with_visits_goes place c (value_goes place c)))

    pub trees_go : (place : Place) (es : Trees) → AllGo place es
    trees_go place no_trees = nothing_goes {st = λ ds. onto ds []} []
    trees_go place (more_trees t rest) = more_go place t rest (with_visits_goes place t (value_goes place t)) (trees_go place rest)

    pub pairs_go : (place : Place) (es : Pairs) → PairsGo place es
    pairs_go place no_pairs = nothing_goes {st = λ ps. onto (flat ps) []} []
    pairs_go place (more_pairs k v rest) =
        more_pairs_go place k v rest (with_visits_goes place k (value_goes place k)) (with_visits_goes place v (value_goes place v)) (pairs_go place rest)

  -- the form of an expression means the expression
  pub tree_goes : (place : Place) (e : Tree) → Does1 (tree_form place e) [] (λ s. ev served here place e s)
  tree_goes place e = with_visits_goes place e (value_goes place e)
