-- The faults of expressions and of the values of attributes.
use Rattle.std.specs.Prelude.{ℕ, ◌==◌, ◌+◌, Bool, true, false, not, ◌&&◌, List, [], ◌∷◌, ◌++◌, Option, Some, None, Result, Ok, Err}
use Rattle.page_pieces.specs.declared.attribute.Part.{Part}
use Rattle.page_pieces.specs.declared.attribute.Part.TheVariants as parts
use Rattle.el_reader.specs.declared.fault.ElFault.{ElFault}
use Rattle.el_reader.specs.ExpressionOf.{expression_of}
use Rattle.el_reader.specs.Fault.{translation_fault_of}
use Rattle.pg_value.specs.Function.{arity_of, function_named}
use Rattle.pg_value.specs.declared.function.Function.{Function}
use Rattle.el_reader.specs.Tree.{Tree, literal, name, call, list, map, index, unary, binary, choice, Trees, no_trees, more_trees, Pairs, no_pairs, more_pairs}
use Rattle.page_directives.specs.Faults.{fault_if}
use Rattle.pg_text.specs.declared.translation_fault.TranslationFault.{TranslationFault}
use Rattle.pg_text.specs.declared.translation_fault.TranslationFault.TheVariants as fault

abbrev pub how_many : Trees → ℕ
how_many no_trees = 0
how_many (more_trees t ts) = how_many ts + 1

abbrev pub takes_as_many : ℕ → Option Function → Bool
takes_as_many count None = false
takes_as_many count (Some function) = arity_of function == count

-- a call of a function of the library, with as many arguments as it has; `library` says which prefixes are the library's
abbrev pub is_function : (List ℕ → Bool) → (prefix name : List ℕ) → ℕ → Bool
is_function library prefix function count = library prefix && takes_as_many count (function_named function)

-- all calls in an expression are of functions of the library
abbrev mutual
  pub are_functions : (List ℕ → Bool) → Tree → Bool
  are_functions library (literal d) = true
  are_functions library (name n) = true
  are_functions library (call prefix function args) = is_function library prefix function (how_many args) && are_all_functions library args
  are_functions library (list items) = are_all_functions library items
  are_functions library (map entries) = are_pairs_functions library entries
  are_functions library (index a b) = are_functions library a && are_functions library b
  are_functions library (unary op a) = are_functions library a
  are_functions library (binary op a b) = are_functions library a && are_functions library b
  are_functions library (choice c a b) = are_functions library c && (are_functions library a && are_functions library b)

  pub are_all_functions : (List ℕ → Bool) → Trees → Bool
  are_all_functions library no_trees = true
  are_all_functions library (more_trees t ts) = are_functions library t && are_all_functions library ts

  pub are_pairs_functions : (List ℕ → Bool) → Pairs → Bool
  are_pairs_functions library no_pairs = true
  are_pairs_functions library (more_pairs k v es) = are_functions library k && (are_functions library v && are_pairs_functions library es)

-- the fault of an expression: that of its text, or NoFunction
abbrev pub read_faults : (List ℕ → Bool) → Result Tree ElFault → List TranslationFault
read_faults library (Err fault) = translation_fault_of fault ∷ []
read_faults library (Ok tree) = fault_if (not (are_functions library tree)) fault.NoFunction

abbrev pub expression_faults : (List ℕ → Bool) → List ℕ → List TranslationFault
expression_faults library text = read_faults library (expression_of text)

-- the faults of the parts of a value
abbrev pub part_faults : (List ℕ → Bool) → List Part → List TranslationFault
part_faults library [] = []
part_faults library (parts.Text text ∷ rest) = part_faults library rest
part_faults library (parts.Expr text ∷ rest) = expression_faults library text ++ part_faults library rest
part_faults library (parts.Hash ∷ rest) = fault.ElNotHere ∷ part_faults library rest
