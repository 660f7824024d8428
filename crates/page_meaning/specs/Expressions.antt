-- What an expression gives.
use Rattle.std.specs.Prelude.{ℕ, Bool, true, false, List, [], ◌∷◌, Option, Some, None, Result, Ok}
use Rattle.el_coercion.specs.Text.{text_of}
use Rattle.el_coercion.specs.Truth.{truth_of}
use Rattle.el_ops.specs.Indexing.{index_of}
use Rattle.el_ops.specs.Operators.{binary_of, unary_of}
use Rattle.el_reader.specs.Tree.{Tree, literal, name, call, list, map, index, unary, binary, choice, Trees, no_trees, more_trees, Pairs, no_pairs, more_pairs}
use Rattle.jstl_functions.specs.Functions.{and_then, called, measured}
use Rattle.pg_text.specs.declared.place.Place.{Place}
use Rattle.pg_value.specs.Attrs.{with_entry}
use Rattle.pg_value.specs.Datum as datum
use Rattle.pg_value.specs.Datum.{Datum, null, truth, rec, items_of, entries_of}
use Rattle.pg_value.specs.Function.{function_named}
use Rattle.pg_value.specs.declared.fault.RunFault.{RunFault}
use Rattle.pg_value.specs.declared.fault.RunFault.TheVariants as fault
use Rattle.pg_value.specs.declared.function.Function.{Function}
use Rattle.pg_value.specs.declared.operators.BinOp.{BinOp}
use Rattle.pg_value.specs.declared.operators.BinOp.TheVariants as binary_op
use Rattle.scopes.specs.Scopes.{Entries, found}
use Rattle.site_words.specs.declared.words.AppStep.TheVariants as step
use Rattle.page_meaning.specs.Context.{Served, Here, is_strict}
use Rattle.page_meaning.specs.Implicit.{Keyed, keyed, Implicit, implicit_named, implicit_value, entry_of_object}
use Rattle.page_meaning.specs.State.{State}
use Rattle.site_words.specs.PageSteps.{told_value}
use Rattle.page_meaning.specs.Went.{Went, Well, Raised, then_do, either, result_of}
use Rattle.page_meaning.specs.Work.{visited, ask}

-- a value that was found nowhere is null, or X6
abbrev pub found_nowhere : Bool → Place → Datum → State → Went Datum
found_nowhere true place null s = Raised fault.NotFound place s
found_nowhere strict place d s = Well d s

-- the variable that was found, or else what one step of application scope gives
abbrev pub variable_or_step : Bool → Place → List ℕ → Option Datum → State → Went Datum
variable_or_step strict place n (Some d) s = Well d s
variable_or_step strict place n None s = then_do (ask place (step.Get n) s) (λ answer s1. found_nowhere strict place (told_value answer) s1)

-- the implicit object of this name, or else the variable
abbrev pub named_value : Served → Here → Place → List ℕ → Option Implicit → State → Went Datum
named_value served here place n (Some object) s = implicit_value served here place object s
named_value served here place n None s = variable_or_step (is_strict here) place n (found s.scopes n) s

-- the implicit object of which an index takes one entry alone, where the expression is its name
abbrev pub keyed_object : Tree → Option Keyed
keyed_object (name n) = object (implicit_named n)
  where
    object : Option Implicit → Option Keyed
    object (Some (keyed k)) = Some k
    object other = None
keyed_object other = None

-- an index: of such an object its entry, where its name counts as evaluated; else of the value
abbrev pub indexed : Served → Place → Option Keyed → (left right : State → Went Datum) → State → Went Datum
indexed served place (Some object) left right s = visited place (λ s1. then_do (right s1) (λ y s2. entry_of_object served place object y s2)) s
indexed served place None left right s = then_do (left s) (λ x s1. then_do (right s1) (λ y s2. result_of place (index_of x y) s2))

-- the truth value of a part's value
abbrev pub truth_in : Place → (State → Went Datum) → State → Went Bool
truth_in place part s = then_do (part s) (λ x s1. result_of place (truth_of x) s1)

-- the same as a value
abbrev pub as_truth : Place → (State → Went Datum) → State → Went Datum
as_truth place part s = then_do (truth_in place part s) (λ t s1. Well (truth t) s1)

-- an operator between two parts: the right of `&&` and `||` only where it decides
abbrev pub joined_by : Place → BinOp → (left right : State → Went Datum) → State → Went Datum
joined_by place binary_op.And left right s = then_do (truth_in place left s) (λ t s1. either t (as_truth place right) (λ s2. Well (truth false) s2) s1)
joined_by place binary_op.Or left right s = then_do (truth_in place left s) (λ t s1. either t (λ s2. Well (truth true) s2) (as_truth place right) s1)
joined_by place op left right s = then_do (left s) (λ x s1. then_do (right s1) (λ y s2. result_of place (binary_of op x y) s2))

-- the record of pairs: keys as texts, a later equal key in the place of an earlier one
abbrev pub record_onto : Entries → List (Datum × Datum) → Result Entries RunFault
record_onto entries [] = Ok entries
record_onto entries (p ∷ rest) = and_then (text_of p.0) (λ key. record_onto (with_entry entries key p.1) rest)

-- the record of pairs, measured
abbrev pub record_of : List (Datum × Datum) → Result Datum RunFault
record_of pairs = and_then (record_onto [] pairs) (λ es. measured (rec (entries_of es)))

-- the call of a function; a unit names no unknown one
abbrev pub called_mean : Place → Option Function → (args : State → Went (List Datum)) → State → Went Datum
called_mean place (Some f) args s = then_do (args s) (λ ds s1. result_of place (called f ds) s1)
called_mean place None args s = Well null s

abbrev mutual
  -- the value of an expression, whose faults stand at a place
  pub ev : Served → Here → Place → Tree → State → Went Datum
  ev served here place (literal d) s = visited place (λ s1. result_of place (measured d) s1) s
  ev served here place (name n) s = visited place (λ s1. named_value served here place n (implicit_named n) s1) s
  ev served here place (call prefix n args) s = visited place (λ s1. called_mean place (function_named n) (ev_all served here place args) s1) s
  ev served here place (list items) s = visited place (λ s1. then_do (ev_all served here place items s1) (λ ds s2. result_of place (measured (datum.list (items_of ds))) s2)) s
  ev served here place (map pairs) s = visited place (λ s1. then_do (ev_pairs served here place pairs s1) (λ ps s2. result_of place (record_of ps) s2)) s
  ev served here place (index a b) s = visited place (λ s1. indexed served place (keyed_object a) (ev served here place a) (ev served here place b) s1) s
  ev served here place (unary op a) s = visited place (λ s1. then_do (ev served here place a s1) (λ x s2. result_of place (unary_of op x) s2)) s
  ev served here place (binary op a b) s = visited place (λ s1. joined_by place op (ev served here place a) (ev served here place b) s1) s
  ev served here place (choice a b c) s = visited place (λ s1. then_do (truth_in place (ev served here place a) s1) (λ t s2. either t (ev served here place b) (ev served here place c) s2)) s

  -- the values of a list of expressions, from left to right
  pub ev_all : Served → Here → Place → Trees → State → Went (List Datum)
  ev_all served here place no_trees s = Well [] s
  ev_all served here place (more_trees t rest) s = then_do (ev served here place t s) (λ x s1. then_do (ev_all served here place rest s1) (λ xs s2. Well (x ∷ xs) s2))

  -- the keys and values of a map, each key before its value
  pub ev_pairs : Served → Here → Place → Pairs → State → Went (List (Datum × Datum))
  ev_pairs served here place no_pairs s = Well [] s
  ev_pairs served here place (more_pairs k v rest) s =
      then_do (ev served here place k s) (λ x s1. then_do (ev served here place v s1) (λ y s2. then_do (ev_pairs served here place rest s2) (λ ps s3. Well ((x, y) ∷ ps) s3)))
