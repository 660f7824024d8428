-- The signs of a value as the code keeps them: a text, and for each of its bytes whether it is shielded. No public contract speaks of it.
use Rattle.std.specs.Prelude.{◌∷◌, ◌++◌, ℕ, Bool, false, List, [], Option, Some, None, Result, Ok, Err}
use Rattle.pg_text.specs.declared.translation_fault.TranslationFault.{TranslationFault}
use Rattle.pg_text.specs.declared.translation_fault.TranslationFault.TheVariants as faults
use Rattle.page_pieces.specs.declared.value_mark.ValueMark.{ValueMark}
use Rattle.page_pieces.specs.declared.value_mark.ValueMark.TheVariants as value_marks
use Rattle.page_pieces.specs.declared.attribute.Part.{Part}
use Rattle.page_pieces.specs.declared.attribute.Part.TheVariants as parts
use Rattle.page_pieces.specs.declared.escape.Escape.{Escape as Found}
use Rattle.page_pieces.specs.declared.setting.Setting.{Setting}
use Rattle.page_pieces.specs.ReadExpression.{nothing_open, around_brace}
use Rattle.page_pieces.specs.Texts.{len_before}
use Rattle.page_pieces.specs.Values.{Escape, escape_at, Sign, sign, value_mark_at}

abbrev pub escape_of : Found → Escape
escape_of found = record { len = found.len; means = found.means.now; shields = found.shields }

-- how many bytes stand before the first escape
abbrev pub plain_len : Bool → List ℕ → ℕ
plain_len el text = len_before (escape_at el) text

-- the bytes of a text with a flag each
abbrev pub signs_with : List ℕ → List Bool → List Sign
signs_with [] shields = []
signs_with (b ∷ bytes) [] = sign false b ∷ signs_with bytes []
signs_with (b ∷ bytes) (shielded ∷ shields) = sign shielded b ∷ signs_with bytes shields

-- how many signs stand before the first mark
abbrev pub unmarked_len : Setting → List Sign → ℕ
unmarked_len setting signs = len_before (value_mark_at setting) signs

abbrev pub expression_or : Option (List ℕ × List ℕ) → Result (Part × List ℕ) TranslationFault
expression_or None = Err faults.Unclosed
expression_or (Some found) = Ok (parts.Expr found.0, found.1)

-- the part whose mark stands before this text, and what follows it, or Unclosed
abbrev pub part_behind : ValueMark → List ℕ → Result (Part × List ℕ) TranslationFault
part_behind value_marks.Hash text = Ok (parts.Hash, text)
part_behind value_marks.Expression text = expression_or (around_brace nothing_open text)

-- the parts with a text behind them, where it is not empty
abbrev pub text_added : List Part → List ℕ → List Part
text_added front [] = front
text_added front (b ∷ bytes) = front ++ parts.Text (b ∷ bytes) ∷ []
