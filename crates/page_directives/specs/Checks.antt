-- What the value of a directive's attribute may be.
use Rattle.std.specs.Prelude.{ℕ, not, ◌==◌, ◌*◌, ◌&&◌, List, [], ◌∷◌, ◌++◌, codes, Option, Some, None, length, nat_le, take, drop, if◌then◌else◌}
use Rattle.std.specs.Char.{is_ascii_digit}
use Rattle.std.specs.List.{prefix_len}
use Rattle.std.specs.Option.{is_some}
use Rattle.std.specs.Str.{bytes_eq, str_to_ascii_lowercase}
use Rattle.std.specs.Str.Parse.{digits_value}
use Rattle.pg_text.specs.declared.translation_fault.TranslationFault.{TranslationFault}
use Rattle.pg_text.specs.declared.translation_fault.TranslationFault.TheVariants as fault
use Rattle.page_pieces.specs.declared.attribute.Attribute.{Attribute}
use Rattle.page_pieces.specs.Settings.{contains_text, plain_text}
use Rattle.page_pieces.specs.Texts.{begins}
use Rattle.page_directives.specs.ContentType.{content_type}
use Rattle.page_directives.specs.Directive.{row_of}
use Rattle.page_directives.specs.Faults.{fault_if}

pub data Check : Type 0 where
  -- any text; any but the empty one
  anything something : Check
  -- one of these texts
  one_of : List (List ℕ) → Check
  -- one of these texts, others being left out of the language
  left_out_but : List (List ℕ) → Check
  -- `true`; `false` is left out
  true_alone : Check
  -- the size of a buffer, a content type, an encoding
  size type_and_charset encoding : Check

abbrev pub truths : List (List ℕ)
truths = codes "true" ∷ codes "false" ∷ []

-- so many digits at the front, without a leading zero, and `kb`
abbrev pub kilobytes : ℕ → List ℕ → Option (Option ℕ)
kilobytes digits text =
    if nat_le 1 digits && (nat_le digits 4 && (not (begins (codes "0") text) && (bytes_eq (drop digits text) (codes "kb") && nat_le (digits_value 10 (take digits text)) 4096)))
    then Some (Some (digits_value 10 (take digits text) * 1024)) else None

-- the size of a buffer in bytes, `none` having none
unfoldable pub buffer_size : List ℕ → Option (Option ℕ)
buffer_size text = if bytes_eq text (codes "none") then Some None else kilobytes (prefix_len is_ascii_digit text) text

-- the fault of a value
unfoldable pub refused : Check → List ℕ → List TranslationFault
refused anything text = []
refused something text = fault_if (length text == 0) fault.BadDirective
refused (one_of texts) text = fault_if (not (contains_text text texts)) fault.BadDirective
refused (left_out_but texts) text = fault_if (not (contains_text text texts)) fault.LeftOut
refused true_alone text = if bytes_eq text (codes "true") then [] else (if bytes_eq text (codes "false") then fault.LeftOut ∷ [] else fault.BadDirective ∷ [])
refused size text = fault_if (not (is_some (buffer_size text))) fault.BadDirective
refused type_and_charset text = fault_if (not (is_some (content_type text))) fault.BadDirective
refused encoding text = fault_if (not (bytes_eq (str_to_ascii_lowercase text) (codes "utf-8"))) fault.BadDirective

-- the attributes that a directive may have
abbrev pub Table : Type 0
Table = List (List ℕ × Check)

-- a value that holds an expression is BadDirective
abbrev pub value_faults : Check → Option (List ℕ) → List TranslationFault
value_faults check None = fault.BadDirective ∷ []
value_faults check (Some text) = refused check text

-- an attribute that the table hasn't is BadDirective
abbrev pub by_row : Option Check → Attribute → List TranslationFault
by_row None a = fault.BadDirective ∷ []
by_row (Some check) a = value_faults check (plain_text a.parts)

-- the faults of a directive's attributes, each by itself
abbrev pub attribute_faults : Table → List Attribute → List TranslationFault
attribute_faults table [] = []
attribute_faults table (a ∷ attributes) = by_row (row_of a.name table) a ++ attribute_faults table attributes
