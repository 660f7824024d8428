-- Expressions and the values of attributes are orderly.
use Rattle.std.proofs.Common.{ℕ, Bool, true, false, List, [], ◌∷◌, ◌++◌, Option, Some, None}
use Rattle.el_coercion.specs.Text.{text_of, made}
use Rattle.el_coercion.specs.Truth.{truth_of}
use Rattle.el_ops.specs.Indexing.{index_of}
use Rattle.el_ops.specs.Operators.{binary_of, unary_of}
use Rattle.el_reader.specs.Tree.{Tree, literal, name, call, list, map, index, unary, binary, choice, Trees, no_trees, more_trees, Pairs, no_pairs, more_pairs}
use Rattle.jstl_functions.specs.Functions.{called, measured}
use Rattle.pg_text.specs.declared.place.Place.{Place}
use Rattle.pg_value.specs.Datum as datum
use Rattle.pg_value.specs.Datum.{Datum, null, truth, number, text, rec, items_of}
use Rattle.pg_value.specs.Function.{function_named}
use Rattle.pg_value.specs.declared.fault.RunFault.TheVariants as fault
use Rattle.pg_value.specs.declared.function.Function.{Function}
use Rattle.pg_value.specs.declared.operators.BinOp.{BinOp}
use Rattle.pg_value.specs.declared.operators.BinOp.TheVariants as op
use Rattle.scopes.specs.Scopes.{found}
use Rattle.site_words.specs.declared.words.AppStep.TheVariants as step
use Rattle.page_meaning.specs.Attributes.{Values, Coercion, as_it_is, to_text, to_text_or_null, to_number, to_number_or_null, to_truth, to_truth_or_null, unevaluated, coerced, joined_parts, parts_value, attribute_value, and_others, evaluated_names, table_of, with_values}
use Rattle.page_meaning.specs.Context.{Served, Here, is_strict}
use Rattle.page_meaning.specs.Expressions.{found_nowhere, variable_or_step, named_value, keyed_object, indexed, truth_in, as_truth, joined_by, record_of, called_mean, ev, ev_all, ev_pairs}
use Rattle.page_meaning.specs.Implicit.{Keyed, held_scope, application_scope, header, header_values, Implicit, keyed, page_context, param, param_values, cookie, init_param, implicit_named, page_context_record, scope_entries, whole_application, keyed_value, implicit_value, entry_under, entry_of_object}
use Rattle.page_meaning.specs.Page.{Part, words, expression, Attributes}
use Rattle.page_meaning.specs.State.{State}
use Rattle.site_words.specs.PageSteps.{told_value, tells_large}
use Rattle.page_meaning.specs.Went.{Went, Did, Well, Raised, then_do, either, result_of}
use Rattle.page_meaning.specs.Work.{ask}
use Rattle.page_meaning.proofs.Orderly.{Orderly, well, raised, result, thens, eithers}
use Rattle.page_meaning.proofs.Words.{ask_orderly, visited_orderly}

module _ {left : ℕ} where
  keyed_orderly : (served : Served) (place : Place) (object : Keyed) → Orderly left (keyed_value served place object)
  keyed_orderly served place (held_scope sc) s = result place (measured (rec (datum.entries_of (scope_entries s.scopes sc)))) s
  keyed_orderly served place application_scope s =
      thens (ask place step.All) (whole_application place) (ask_orderly place step.All)
      (λ answer. eithers (tells_large answer) (Raised fault.ValueTooLarge place) (Well (told_value answer)) (raised fault.ValueTooLarge place) (well (told_value answer))) s
  keyed_orderly served place header s = well _ s
  keyed_orderly served place header_values s = well _ s

  implicit_orderly : (served : Served) (here : Here) (place : Place) (object : Implicit) → Orderly left (implicit_value served here place object)
  implicit_orderly served here place (keyed object) s = keyed_orderly served place object s
  implicit_orderly served here place page_context s = well (page_context_record served s) s
  implicit_orderly served here place param s = well _ s
  implicit_orderly served here place param_values s = well _ s
  implicit_orderly served here place cookie s = well _ s
  implicit_orderly served here place init_param s = well _ s

  entry_under_orderly : (served : Served) (place : Place) (object : Keyed) (key : List ℕ) → Orderly left (entry_under served place object key)
  entry_under_orderly served place (held_scope sc) key s = well _ s
  entry_under_orderly served place application_scope key s =
      thens (result_of place (made key)) (λ k s1. then_do (ask place (step.Get k) s1) (λ answer s2. Well (told_value answer) s2)) (result place (made key))
      (λ k. thens (ask place (step.Get k)) (λ answer s2. Well (told_value answer) s2) (ask_orderly place (step.Get k)) (λ answer. well (told_value answer))) s
  entry_under_orderly served place header key s = well _ s
  entry_under_orderly served place header_values key s = well _ s

  entry_by_text : (served : Served) (place : Place) (object : Keyed) (d : Datum)
      → Orderly left (λ s. then_do (result_of place (text_of d) s) (λ k s1. entry_under served place object k s1))
  entry_by_text served place object d =
      thens (result_of place (text_of d)) (λ k s1. entry_under served place object k s1) (result place (text_of d)) (λ k. entry_under_orderly served place object k)

  entry_of_object_orderly : (served : Served) (place : Place) (object : Keyed) (d : Datum) → Orderly left (entry_of_object served place object d)
  entry_of_object_orderly served place object null = well null
  entry_of_object_orderly served place object (truth b) = entry_by_text served place object (truth b)
  entry_of_object_orderly served place object (number n) = entry_by_text served place object (number n)
  entry_of_object_orderly served place object (text t) = entry_by_text served place object (text t)
  entry_of_object_orderly served place object (datum.list is) = entry_by_text served place object (datum.list is)
  entry_of_object_orderly served place object (rec es) = entry_by_text served place object (rec es)

  found_nowhere_orderly : (strict : Bool) (place : Place) (d : Datum) → Orderly left (found_nowhere strict place d)
  found_nowhere_orderly true place null = raised fault.NotFound place
  found_nowhere_orderly true place (truth b) = well (truth b)
  found_nowhere_orderly true place (number n) = well (number n)
  found_nowhere_orderly true place (text t) = well (text t)
  found_nowhere_orderly true place (datum.list is) = well (datum.list is)
  found_nowhere_orderly true place (rec es) = well (rec es)
  found_nowhere_orderly false place d = well d

  variable_orderly : (strict : Bool) (place : Place) (n : List ℕ) (o : Option Datum) → Orderly left (variable_or_step strict place n o)
  variable_orderly strict place n (Some d) = well d
  variable_orderly strict place n None =
      thens (ask place (step.Get n)) (λ answer s1. found_nowhere strict place (told_value answer) s1) (ask_orderly place (step.Get n)) (λ answer. found_nowhere_orderly strict place (told_value answer))

  named_orderly : (served : Served) (here : Here) (place : Place) (n : List ℕ) (o : Option Implicit) → Orderly left (named_value served here place n o)
  named_orderly served here place n (Some object) s = implicit_orderly served here place object s
  named_orderly served here place n None s = variable_orderly (is_strict here) place n (found s.scopes n) s

  indexed_orderly : (served : Served) (place : Place) (o : Option Keyed) (one other : State → Went Datum) → Orderly left one → Orderly left other
      → Orderly left (indexed served place o one other)
  indexed_orderly served place (Some object) one other h k =
      visited_orderly place (λ s1. then_do (other s1) (λ y s2. entry_of_object served place object y s2))
      (thens other (λ y s2. entry_of_object served place object y s2) k (λ y. entry_of_object_orderly served place object y))
  indexed_orderly served place None one other h k =
      thens one (λ x s1. then_do (other s1) (λ y s2. result_of place (index_of x y) s2)) h
      (λ x. thens other (λ y s2. result_of place (index_of x y) s2) k (λ y. result place (index_of x y)))

  truth_in_orderly : (place : Place) (part : State → Went Datum) → Orderly left part → Orderly left (truth_in place part)
  truth_in_orderly place part h = thens part (λ x s1. result_of place (truth_of x) s1) h (λ x. result place (truth_of x))

  as_truth_orderly : (place : Place) (part : State → Went Datum) → Orderly left part → Orderly left (as_truth place part)
  as_truth_orderly place part h = thens (truth_in place part) (λ t s1. Well (truth t) s1) (truth_in_orderly place part h) (λ t. well (truth t))

  operated : (place : Place) (o : BinOp) (one other : State → Went Datum) → Orderly left one → Orderly left other
      → Orderly left (λ s. then_do (one s) (λ x s1. then_do (other s1) (λ y s2. result_of place (binary_of o x y) s2)))
  operated place o one other h k =
      thens one (λ x s1. then_do (other s1) (λ y s2. result_of place (binary_of o x y) s2)) h
      (λ x. thens other (λ y s2. result_of place (binary_of o x y) s2) k (λ y. result place (binary_of o x y)))

  joined_by_orderly : (place : Place) (o : BinOp) (one other : State → Went Datum) → Orderly left one → Orderly left other → Orderly left (joined_by place o one other)
  joined_by_orderly place op.And one other h k =
      thens (truth_in place one) (λ t s1. either t (as_truth place other) (λ s2. Well (truth false) s2) s1) (truth_in_orderly place one h)
      (λ t. eithers t (as_truth place other) (λ s2. Well (truth false) s2) (as_truth_orderly place other k) (well (truth false)))
  joined_by_orderly place op.Or one other h k =
      thens (truth_in place one) (λ t s1. either t (λ s2. Well (truth true) s2) (as_truth place other) s1) (truth_in_orderly place one h)
      (λ t. eithers t (λ s2. Well (truth true) s2) (as_truth place other) (well (truth true)) (as_truth_orderly place other k))
  joined_by_orderly place op.Add one other h k = operated place op.Add one other h k
  joined_by_orderly place op.Sub one other h k = operated place op.Sub one other h k
  joined_by_orderly place op.Mul one other h k = operated place op.Mul one other h k
  joined_by_orderly place op.Rem one other h k = operated place op.Rem one other h k
  joined_by_orderly place op.Join one other h k = operated place op.Join one other h k
  joined_by_orderly place op.Lt one other h k = operated place op.Lt one other h k
  joined_by_orderly place op.Gt one other h k = operated place op.Gt one other h k
  joined_by_orderly place op.Le one other h k = operated place op.Le one other h k
  joined_by_orderly place op.Ge one other h k = operated place op.Ge one other h k
  joined_by_orderly place op.Eq one other h k = operated place op.Eq one other h k
  joined_by_orderly place op.Ne one other h k = operated place op.Ne one other h k

  called_orderly : (place : Place) (f : Option Function) (args : State → Went (List Datum)) → Orderly left args → Orderly left (called_mean place f args)
  called_orderly place (Some f) args h = thens args (λ ds s1. result_of place (called f ds) s1) h (λ ds. result place (called f ds))
  called_orderly place None args h = well null

  mutual
    pub ev_orderly : (served : Served) (here : Here) (place : Place) (e : Tree) → Orderly left (ev served here place e)
    ev_orderly served here place (literal d) = visited_orderly place (λ s1. result_of place (measured d) s1) (result place (measured d))
    ev_orderly served here place (name n) = visited_orderly place (λ s1. named_value served here place n (implicit_named n) s1) (named_orderly served here place n (implicit_named n))
    ev_orderly served here place (call prefix n args) =
        visited_orderly place (λ s1. called_mean place (function_named n) (ev_all served here place args) s1) (called_orderly place (function_named n) (ev_all served here place args) (ev_all_orderly served here place args))
    ev_orderly served here place (list items) =
        visited_orderly place (λ s1. then_do (ev_all served here place items s1) (λ ds s2. result_of place (measured (datum.list (items_of ds))) s2))
        (thens (ev_all served here place items) (λ ds s2. result_of place (measured (datum.list (items_of ds))) s2) (ev_all_orderly served here place items) (λ ds. result place (measured (datum.list (items_of ds)))))
    ev_orderly served here place (map pairs) =
        visited_orderly place (λ s1. then_do (ev_pairs served here place pairs s1) (λ ps s2. result_of place (record_of ps) s2))
        (thens (ev_pairs served here place pairs) (λ ps s2. result_of place (record_of ps) s2) (ev_pairs_orderly served here place pairs) (λ ps. result place (record_of ps)))
    ev_orderly served here place (index a b) =
        visited_orderly place (λ s1. indexed served place (keyed_object a) (ev served here place a) (ev served here place b) s1)
        (indexed_orderly served place (keyed_object a) (ev served here place a) (ev served here place b) (ev_orderly served here place a) (ev_orderly served here place b))
    ev_orderly served here place (unary o a) =
        visited_orderly place (λ s1. then_do (ev served here place a s1) (λ x s2. result_of place (unary_of o x) s2))
        (thens (ev served here place a) (λ x s2. result_of place (unary_of o x) s2) (ev_orderly served here place a) (λ x. result place (unary_of o x)))
    ev_orderly served here place (binary o a b) =
        visited_orderly place (λ s1. joined_by place o (ev served here place a) (ev served here place b) s1)
        (joined_by_orderly place o (ev served here place a) (ev served here place b) (ev_orderly served here place a) (ev_orderly served here place b))
    ev_orderly served here place (choice a b c) =
        visited_orderly place (λ s1. then_do (truth_in place (ev served here place a) s1) (λ t s2. either t (ev served here place b) (ev served here place c) s2))
        (thens (truth_in place (ev served here place a)) (λ t s2. either t (ev served here place b) (ev served here place c) s2) (truth_in_orderly place (ev served here place a) (ev_orderly served here place a))
        (λ t. eithers t (ev served here place b) (ev served here place c) (ev_orderly served here place b) (ev_orderly served here place c)))

    pub ev_all_orderly : (served : Served) (here : Here) (place : Place) (ts : Trees) → Orderly left (ev_all served here place ts)
    ev_all_orderly served here place no_trees = well []
    ev_all_orderly served here place (more_trees t rest) =
        thens (ev served here place t) (λ x s1. then_do (ev_all served here place rest s1) (λ xs s2. Well (x ∷ xs) s2)) (ev_orderly served here place t)
        (λ x. thens (ev_all served here place rest) (λ xs s2. Well (x ∷ xs) s2) (ev_all_orderly served here place rest) (λ xs. well (x ∷ xs)))

    pub ev_pairs_orderly : (served : Served) (here : Here) (place : Place) (ps : Pairs) → Orderly left (ev_pairs served here place ps)
    ev_pairs_orderly served here place no_pairs = well []
    ev_pairs_orderly served here place (more_pairs k v rest) =
        thens (ev served here place k) (λ x s1. then_do (ev served here place v s1) (λ y s2. then_do (ev_pairs served here place rest s2) (λ ps s3. Well ((x, y) ∷ ps) s3))) (ev_orderly served here place k)
        (λ x. thens (ev served here place v) (λ y s2. then_do (ev_pairs served here place rest s2) (λ ps s3. Well ((x, y) ∷ ps) s3)) (ev_orderly served here place v)
        (λ y. thens (ev_pairs served here place rest) (λ ps s3. Well ((x, y) ∷ ps) s3) (ev_pairs_orderly served here place rest) (λ ps. well ((x, y) ∷ ps))))

  joined_parts_orderly : (served : Served) (here : Here) (place : Place) (parts : List Part) (front : List ℕ) → Orderly left (joined_parts served here place parts front)
  joined_parts_orderly served here place [] front = well front
  joined_parts_orderly served here place (words w ∷ rest) front = joined_parts_orderly served here place rest (front ++ w)
  joined_parts_orderly served here place (expression e ∷ rest) front =
      thens (ev served here place e) (λ d s1. then_do (result_of place (text_of d) s1) (λ t s2. joined_parts served here place rest (front ++ t) s2)) (ev_orderly served here place e)
      (λ d. thens (result_of place (text_of d)) (λ t s2. joined_parts served here place rest (front ++ t) s2) (result place (text_of d)) (λ t. joined_parts_orderly served here place rest (front ++ t)))

  joined_value : (served : Served) (here : Here) (place : Place) (parts : List Part)
      → Orderly left (λ s. then_do (joined_parts served here place parts [] s) (λ t s1. then_do (result_of place (made t) s1) (λ m s2. Well (text m) s2)))
  joined_value served here place parts =
      thens (joined_parts served here place parts []) (λ t s1. then_do (result_of place (made t) s1) (λ m s2. Well (text m) s2)) (joined_parts_orderly served here place parts [])
      (λ t. thens (result_of place (made t)) (λ m s2. Well (text m) s2) (result place (made t)) (λ m. well (text m)))

  pub parts_orderly : (served : Served) (here : Here) (place : Place) (parts : List Part) → Orderly left (parts_value served here place parts)
  parts_orderly served here place [] = joined_value served here place []
  parts_orderly served here place (words w ∷ rest) = joined_value served here place (words w ∷ rest)
  parts_orderly served here place (expression e ∷ []) = ev_orderly served here place e
  parts_orderly served here place (expression e ∷ part ∷ rest) = joined_value served here place (expression e ∷ part ∷ rest)

  coerced_orderly : (coercion : Coercion) (place : Place) (value : State → Went Datum) → Orderly left value
      → Orderly left (λ s. then_do (value s) (λ d s1. then_do (result_of place (coerced coercion d) s1) (λ c s2. Well (c ∷ []) s2)))
  coerced_orderly coercion place value h =
      thens value (λ d s1. then_do (result_of place (coerced coercion d) s1) (λ c s2. Well (c ∷ []) s2)) h
      (λ d. thens (result_of place (coerced coercion d)) (λ c s2. Well (c ∷ []) s2) (result place (coerced coercion d)) (λ c. well (c ∷ [])))

  pub attribute_orderly : (coercion : Coercion) (place : Place) (value : State → Went Datum) → Orderly left value → Orderly left (attribute_value coercion place value)
  attribute_orderly unevaluated place value h = well []
  attribute_orderly as_it_is place value h = coerced_orderly as_it_is place value h
  attribute_orderly to_text place value h = coerced_orderly to_text place value h
  attribute_orderly to_text_or_null place value h = coerced_orderly to_text_or_null place value h
  attribute_orderly to_number place value h = coerced_orderly to_number place value h
  attribute_orderly to_number_or_null place value h = coerced_orderly to_number_or_null place value h
  attribute_orderly to_truth place value h = coerced_orderly to_truth place value h
  attribute_orderly to_truth_or_null place value h = coerced_orderly to_truth_or_null place value h

  pub and_others_orderly : (first others : State → Went (List Datum)) → Orderly left first → Orderly left others → Orderly left (and_others first others)
  and_others_orderly first others h k =
      thens first (λ ds s1. then_do (others s1) (λ es s2. Well (ds ++ es) s2)) h (λ ds. thens others (λ es s2. Well (ds ++ es) s2) k (λ es. well (ds ++ es)))

  pub with_values_orderly : (coercion : List ℕ → Coercion) (attrs : Attributes) (values : (List ℕ → Coercion) → State → Went (List Datum)) (go : Values → State → Did)
      → Orderly left (values coercion) → ((vs : Values) → Orderly left (go vs)) → Orderly left (with_values coercion attrs values go)
  with_values_orderly coercion attrs values go h next =
      thens (values coercion) (λ ds s1. go (table_of (evaluated_names coercion attrs) ds) s1) h (λ ds. next (table_of (evaluated_names coercion attrs) ds))
