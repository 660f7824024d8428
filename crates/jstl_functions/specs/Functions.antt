-- What each function of the functions library gives for its arguments.
use Rattle.std.specs.Prelude.{ℕ, ℤ, pos, List, [], ◌∷◌, length, map, nat_eq, chars, Result, Ok, Err, if◌then◌else◌}
use Rattle.std.specs.List.{starts_with, ends_with, slice_get}
use Rattle.std.specs.Option.{unwrap_or}
use Rattle.std.specs.Str.{str_to_ascii_lowercase, str_to_ascii_uppercase}
use Rattle.pg_text.specs.Escape.{escaped}
use Rattle.pg_value.specs.Datum.{Datum, null, truth, number, text, list, rec, items_of, item_list, entry_list}
use Rattle.pg_value.specs.Limits.{is_over}
use Rattle.pg_value.specs.declared.fault.RunFault.{RunFault}
use Rattle.pg_value.specs.declared.fault.RunFault.TheVariants as fault
use Rattle.pg_value.specs.declared.function.Function.{Function}
use Rattle.pg_value.specs.declared.function.Function.TheVariants as function
use Rattle.el_coercion.specs.Number.{number_of}
use Rattle.el_coercion.specs.Text.{text_of}
use Rattle.jstl_functions.specs.Texts.{after_part, before_part, contains_ignoring_case, contains_part, index_of_part, joined, replaced, split_at, substring_of, trimmed_end, trimmed_front}

-- what is made of an answer, or its fault
abbrev pub and_then : {A B : Type 0} → Result A RunFault → (A → Result B RunFault) → Result B RunFault
and_then (Ok x) make = make x
and_then (Err fault) make = Err fault

-- what is made of the text of a value
abbrev pub of_text : (List ℕ → Datum) → Datum → Result Datum RunFault
of_text make a = and_then (text_of a) (λ s. Ok (make s))

-- what is made of the texts of two values, the first coerced first
abbrev pub of_texts : (List ℕ → List ℕ → Datum) → Datum → Datum → Result Datum RunFault
of_texts make a b = and_then (text_of a) (λ s. and_then (text_of b) (λ t. Ok (make s t)))

-- what is made of the texts of three
abbrev pub of_three_texts : (List ℕ → List ℕ → List ℕ → Datum) → Datum → Datum → Datum → Result Datum RunFault
of_three_texts make a b c = and_then (text_of a) (λ s. and_then (text_of b) (λ t. and_then (text_of c) (λ u. Ok (make s t u))))

-- what is made of the text of a value and of the numbers of two
abbrev pub of_range : (List ℕ → ℤ → ℤ → Datum) → Datum → Datum → Datum → Result Datum RunFault
of_range make a b c = and_then (text_of a) (λ s. and_then (number_of b) (λ m. and_then (number_of c) (λ n. Ok (make s m n))))

-- texts as a list
abbrev pub texts_list : List (List ℕ) → Datum
texts_list texts = list (items_of (map text texts))

-- the texts of values, or the first fault
abbrev pub texts_of : List Datum → Result (List (List ℕ)) RunFault
texts_of [] = Ok []
texts_of (d ∷ rest) = and_then (text_of d) (λ t. and_then (texts_of rest) (λ ts. Ok (t ∷ ts)))

-- the texts of a list with the text of the second value between them; of a value that isn't a list its text
abbrev pub join_of : Datum → Datum → Result Datum RunFault
join_of (list items) b = and_then (texts_of (item_list items)) (λ ts. and_then (text_of b) (λ between. Ok (text (joined between ts))))
join_of other b = of_texts (λ t between. text t) other b

-- the number of scalar values of a text, of items of a list or of entries of a record, and 0 of null
abbrev pub length_of : Datum → Result Datum RunFault
length_of null = Ok (number (pos 0))
length_of (list items) = Ok (number (pos (length (item_list items))))
length_of (rec entries) = Ok (number (pos (length (entry_list entries))))
length_of other = of_text (λ s. number (pos (length (chars s)))) other

-- what each function makes of its arguments
abbrev pub function_value : Function → Datum → Datum → Datum → Result Datum RunFault
function_value function.Contains a b c = of_texts (λ s t. truth (contains_part t s)) a b
function_value function.ContainsIgnoreCase a b c = of_texts (λ s t. truth (contains_ignoring_case t s)) a b
function_value function.EndsWith a b c = of_texts (λ s t. truth (ends_with nat_eq s t)) a b
function_value function.StartsWith a b c = of_texts (λ s t. truth (starts_with nat_eq s t)) a b
function_value function.EscapeXml a b c = of_text (λ s. text (escaped s)) a
function_value function.IndexOf a b c = of_texts (λ s t. number (index_of_part t s)) a b
function_value function.Join a b c = join_of a b
function_value function.Length a b c = length_of a
function_value function.Replace a b c = of_three_texts (λ s old new. text (replaced old new s)) a b c
function_value function.Split a b c = of_texts (λ s t. texts_list (split_at t s)) a b
function_value function.Substring a b c = of_range (λ s m n. text (substring_of s m n)) a b c
function_value function.SubstringAfter a b c = of_texts (λ s t. text (after_part t s)) a b
function_value function.SubstringBefore a b c = of_texts (λ s t. text (before_part t s)) a b
function_value function.ToLowerCase a b c = of_text (λ s. text (str_to_ascii_lowercase s)) a
function_value function.ToUpperCase a b c = of_text (λ s. text (str_to_ascii_uppercase s)) a
function_value function.Trim a b c = of_text (λ s. text (trimmed_end (trimmed_front s))) a

-- an argument, and null where a function takes none there
abbrev pub argument : ℕ → List Datum → Datum
argument n args = unwrap_or (slice_get args n) null

-- a value that was made, where it isn't over the limits of a value
abbrev pub measured : Datum → Result Datum RunFault
measured d = if is_over d then Err fault.ValueTooLarge else Ok d

-- the answer of a function
abbrev pub called : Function → List Datum → Result Datum RunFault
called f args = and_then (function_value f (argument 0 args) (argument 1 args) (argument 2 args)) measured
