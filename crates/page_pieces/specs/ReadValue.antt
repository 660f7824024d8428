-- How a value and the quote that ends it are read. No public contract speaks of it: that it is what the definition of values says is proved.
use Rattle.std.specs.Prelude.{◌∷◌, ◌+◌, ◌==◌, ◌&&◌, if◌then◌else◌, ℕ, zero, suc, Bool, true, false, List, [], Option, Some, None, Result, Ok, Err, not, length, drop, codes}
use Rattle.std.specs.Option.{is_some}
use Rattle.pg_text.specs.declared.translation_fault.TranslationFault.{TranslationFault}
use Rattle.pg_text.specs.declared.translation_fault.TranslationFault.TheVariants as faults
use Rattle.page_pieces.specs.declared.value_mark.ValueMark.{ValueMark}
use Rattle.page_pieces.specs.declared.value_mark.ValueMark.TheVariants as value_marks
use Rattle.page_pieces.specs.declared.setting.Setting.{Setting}
use Rattle.page_pieces.specs.declared.attribute.Part.{Part}
use Rattle.page_pieces.specs.declared.attribute.Part.TheVariants as parts
use Rattle.page_pieces.specs.declared.attribute.Attribute.{Attribute}
use Rattle.page_pieces.specs.declared.spot.Spot.{Spot}
use Rattle.page_pieces.specs.declared.piece.Break.{Break}
use Rattle.page_pieces.specs.declared.piece.Break.TheVariants.{Fault}
use Rattle.page_pieces.specs.Spots.{spot_after, place_in}
use Rattle.page_pieces.specs.Tags.{WrittenAttribute, before_value, attribute_bytes}
use Rattle.page_pieces.specs.Texts.{further, around}
use Rattle.page_pieces.specs.Values.{Sign, signs_of, bytes_of, value_mark_at}
use Rattle.page_pieces.specs.ReadExpression.{nothing_open, around_brace}

-- a byte of a value is the quote that ends it, unless a backslash before it takes it along
abbrev pub ends_value : ℕ → Bool → ℕ → Bool
ends_value quote escaped b = not escaped && (b == quote)

-- a backslash takes the next byte along, unless one before it takes the backslash along
abbrev pub takes_next : Bool → ℕ → Bool
takes_next escaped b = not escaped && (b == 92)

-- what stands before the quote that ends a value, and what follows it
abbrev pub around_quote : ℕ → Bool → List ℕ → Option (List ℕ × List ℕ)
around_quote quote escaped [] = None
around_quote quote escaped (b ∷ bytes) = if ends_value quote escaped b then Some ([], bytes) else further b (around_quote quote (takes_next escaped b) bytes)

abbrev pub byte_before : ℕ → List Part → List Part
byte_before b (parts.Text text ∷ more) = parts.Text (b ∷ text) ∷ more
byte_before b more = parts.Text (b ∷ []) ∷ more

-- a byte of text before these parts
abbrev pub with_byte : ℕ → Result (List Part) TranslationFault → Result (List Part) TranslationFault
with_byte b (Ok behind) = Ok (byte_before b behind)
with_byte b (Err fault) = Err fault

abbrev pub with_part : Part → Result (List Part) TranslationFault → Result (List Part) TranslationFault
with_part part (Ok behind) = Ok (part ∷ behind)
with_part part (Err fault) = Err fault

-- an expression, and then the parts behind it; Unclosed where it has no end
abbrev pub with_expression : Option (List ℕ × List ℕ) → (ℕ → Result (List Part) TranslationFault) → Result (List Part) TranslationFault
with_expression None more = Err faults.Unclosed
with_expression (Some found) more = with_part (parts.Expr found.0) (more (length found.0 + 2))

-- the parts from a sign on, by the mark there; `more` are the parts behind it and so many signs more
abbrev pub part_or : Option ValueMark → Sign → List Sign → (ℕ → Result (List Part) TranslationFault) → Result (List Part) TranslationFault
part_or None sign signs more = with_byte sign.byte (more 0)
part_or (Some value_marks.Hash) sign signs more = with_part parts.Hash (more 1)
part_or (Some value_marks.Expression) sign signs more = with_expression (around_brace nothing_open (bytes_of (drop 1 signs))) more

abbrev pub parts_behind : Setting → ℕ → List Sign → Result (List Part) TranslationFault
parts_behind setting skipped [] = Ok []
parts_behind setting zero (sign ∷ signs) = part_or (value_mark_at setting (sign ∷ signs)) sign signs (λ skipped. parts_behind setting skipped signs)
parts_behind setting (suc skipped) (sign ∷ signs) = parts_behind setting skipped signs

-- the parts of these signs, or Unclosed
abbrev pub parts_of : Setting → List Sign → Result (List Part) TranslationFault
parts_of setting signs = parts_behind setting 0 signs

abbrev pub unless_scripting : Bool → Result (List Part) TranslationFault → Result (List Part) TranslationFault
unless_scripting holds (Err fault) = Err fault
unless_scripting false (Ok found) = Ok found
unless_scripting true (Ok found) = Err faults.Scripting

-- the parts of a value as it is written; else Unclosed, or Scripting where `<%=` stands in it
abbrev pub value_parts : Setting → List ℕ → Result (List Part) TranslationFault
value_parts setting value = unless_scripting (is_some (around (codes "<%=") value)) (parts_of setting (signs_of setting.el value))

abbrev pub attribute_with : List ℕ → List ℕ → Spot → Result (List Part) TranslationFault → Result Attribute Break
attribute_with file name spot (Ok parts) = Ok (record { name = name; parts = parts; place = place_in file spot })
attribute_with file name spot (Err fault) = Err (Fault fault spot)

-- an attribute that begins at this place: its value's first byte is its place, and that of a fault in the value
abbrev pub attribute_of : Setting → List ℕ → Spot → WrittenAttribute → Result Attribute Break
attribute_of setting file spot a = attribute_with file a.name (spot_after spot (before_value a)) (value_parts setting a.value)

abbrev pub attribute_first : Result Attribute Break → Result (List Attribute) Break → Result (List Attribute) Break
attribute_first (Err fault) more = Err fault
attribute_first (Ok a) (Err fault) = Err fault
attribute_first (Ok a) (Ok attributes) = Ok (a ∷ attributes)

-- the attributes that begin at this place, or the first fault in a value
abbrev pub attributes_of : Setting → List ℕ → Spot → List WrittenAttribute → Result (List Attribute) Break
attributes_of setting file spot [] = Ok []
attributes_of setting file spot (a ∷ attributes) = attribute_first (attribute_of setting file spot a) (attributes_of setting file (spot_after spot (attribute_bytes a)) attributes)
