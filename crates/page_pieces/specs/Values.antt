-- The value of an attribute: its escapes, and the parts that it is made of.
use Rattle.std.specs.Prelude.{◌≡◌, ◌≢◌, ◌⊎◌, ◌++◌, ◌∷◌, ◌+◌, ◌-◌, ◌==◌, ◌&&◌, if◌then◌else◌, ℕ, zero, suc, Bool, true, false, List, [], Option, Some, None, not, length, drop, codes, map}
use Rattle.pg_text.specs.declared.translation_fault.TranslationFault.{TranslationFault}
use Rattle.pg_text.specs.declared.translation_fault.TranslationFault.TheVariants as faults
use Rattle.page_pieces.specs.declared.value_mark.ValueMark.{ValueMark}
use Rattle.page_pieces.specs.declared.value_mark.ValueMark.TheVariants as value_marks
use Rattle.page_pieces.specs.declared.setting.Setting.{Setting}
use Rattle.page_pieces.specs.declared.attribute.Part.{Part}
use Rattle.page_pieces.specs.declared.attribute.Part.TheVariants as parts
use Rattle.page_pieces.specs.Expressions.{EndsBehind}
use Rattle.page_pieces.specs.Texts.{begins}

-- an escape: how many bytes it takes, what it means, and whether it shields that, so that it is no mark
pub record Escape : Type 0 where
  pub len : ℕ
  pub means : List ℕ
  pub shields : Bool

abbrev pub escape : ℕ → List ℕ → Bool → Option Escape
escape len means shields = Some (record { len = len; means = means; shields = shields })

-- the escape that stands at the front of a value
unfoldable pub escape_at : Bool → List ℕ → Option Escape
escape_at el text =
    if begins (codes "\\'") text then escape 2 (codes "'") false
    else if begins (codes "\\\"") text then escape 2 (codes "\"") false
    else if begins (codes "\\\\") text then escape 2 (codes "\\") false
    else if begins (codes "<\\%") text then escape 3 (codes "<%") false
    else if begins (codes "%\\>") text then escape 3 (codes "%>") false
    else if begins (codes "&apos;") text then escape 6 (codes "'") false
    else if begins (codes "&quot;") text then escape 6 (codes "\"") false
    else if el && begins (codes "\\$") text then escape 2 (codes "$") true
    else if el && begins (codes "\\#") text then escape 2 (codes "#") true
    else None

-- a byte of a value whose escapes are replaced
pub record Sign : Type 0 where
  pub byte : ℕ
  pub shielded : Bool

abbrev pub sign : Bool → ℕ → Sign
sign shielded b = record { byte = b; shielded = shielded }

abbrev pub signs : Bool → List ℕ → List Sign
signs shielded text = map (sign shielded) text

-- what an escape means, or else the byte, and then the signs behind it and so many bytes more
abbrev pub escaped_or : Option Escape → ℕ → (ℕ → List Sign) → List Sign
escaped_or None b more = sign false b ∷ more 0
escaped_or (Some found) b more = signs found.shields found.means ++ more (found.len - 1)

-- the signs of a value behind its first bytes, so many of them
abbrev pub signs_behind : Bool → ℕ → List ℕ → List Sign
signs_behind el skipped [] = []
signs_behind el zero (b ∷ bytes) = escaped_or (escape_at el (b ∷ bytes)) b (λ skipped. signs_behind el skipped bytes)
signs_behind el (suc skipped) (b ∷ bytes) = signs_behind el skipped bytes

-- the signs of a value as it is written, its escapes replaced
abbrev pub signs_of : Bool → List ℕ → List Sign
signs_of el value = signs_behind el 0 value

abbrev pub bytes_of : List Sign → List ℕ
bytes_of signs = map (λ sign. sign.byte) signs

-- the mark that two signs are; without expressions none is
abbrev pub value_mark_of : Setting → Sign → Sign → Option ValueMark
value_mark_of setting x y =
    if x.shielded then None
    else if not (y.byte == 123) then None
    else if setting.el && (x.byte == 36) then Some value_marks.Expression
    else if setting.el && (not setting.hash_is_text && (x.byte == 35)) then Some value_marks.Hash
    else None

-- the mark at the front of these signs
abbrev pub value_mark_at : Setting → List Sign → Option ValueMark
value_mark_at setting (x ∷ y ∷ signs) = value_mark_of setting x y
value_mark_at setting _ = None

-- at none of these signs does a mark stand, where these stand behind them
abbrev pub IsUnmarked : Setting → List Sign → List Sign → Type 0
IsUnmarked setting [] behind = Unit {0}
IsUnmarked setting (sign ∷ text) behind = (value_mark_at setting (sign ∷ (text ++ behind)) ≡ None) × IsUnmarked setting text behind

-- the first part is no text
abbrev pub BeginsNoText : List Part → Type 0
BeginsNoText (parts.Text text ∷ more) = ⊥
BeginsNoText _ = Unit {0}

-- the parts of these signs: text up to a mark or their end, an expression up to its `}`, or a `#{`
abbrev pub AreParts : Setting → List Sign → List Part → Type 0
AreParts setting signs [] = signs ≡ []
AreParts setting signs (parts.Text text ∷ more) = (front behind : List Sign) × (signs ≡ front ++ behind) × (front ≢ []) × (text ≡ bytes_of front) × IsUnmarked setting front behind × BeginsNoText more × AreParts setting behind more
AreParts setting signs (parts.Expr inside ∷ more) =
    (value_mark_at setting signs ≡ Some value_marks.Expression) × (behind : List ℕ) × EndsBehind (bytes_of (drop 2 signs)) inside behind × AreParts setting (drop (3 + length inside) signs) more
AreParts setting signs (parts.Hash ∷ more) = (value_mark_at setting signs ≡ Some value_marks.Hash) × AreParts setting (drop 2 signs) more

-- Java stands in the value as it is written
abbrev pub HasScripting : List ℕ → Type 0
HasScripting value = (before behind : List ℕ) × (value ≡ before ++ (codes "<%=" ++ behind))

-- the parts of a value as it is written
pub record IsValue (setting : Setting) (value : List ℕ) (made : List Part) : Type 0 where
  pub are : AreParts setting (signs_of setting.el value) made
  pub clean : ¬ (HasScripting value)

-- the fault of a value: an expression in it has no end, or else Java stands in it
abbrev pub IsBadValue : Setting → List ℕ → TranslationFault → Type 0
IsBadValue setting value fault =
    (((made : List Part) → ¬ (AreParts setting (signs_of setting.el value) made)) × (fault ≡ faults.Unclosed))
    ⊎ ((made : List Part) × AreParts setting (signs_of setting.el value) made × HasScripting value × (fault ≡ faults.Scripting))
