-- Under what a file is read: the prefixes that are registered, and how `${` and `#{` are taken.
use Rattle.std.specs.Prelude.{◌++◌, ◌∷◌, ◌==◌, ◌||◌, if◌then◌else◌, ℕ, Bool, true, false, List, [], Option, Some, None, codes}
use Rattle.std.specs.Option.{option_to_list}
use Rattle.std.specs.Str.{bytes_eq}
use Rattle.page_pieces.specs.declared.setting.Setting.{Setting}
use Rattle.page_pieces.specs.declared.setting.BroughtPrefixes.{BroughtPrefixes}
use Rattle.page_pieces.specs.declared.attribute.Attribute.{Attribute}
use Rattle.page_pieces.specs.declared.attribute.Part.{Part}
use Rattle.page_pieces.specs.declared.piece.Piece.{Piece}
use Rattle.page_pieces.specs.declared.piece.Piece.TheVariants as pieces
use Rattle.page_pieces.specs.declared.piece.Leaf.TheVariants as leaves
use Rattle.page_pieces.specs.declared.attribute.Part.TheVariants as parts

-- whether the text is one of these
abbrev pub contains_text : List ℕ → List (List ℕ) → Bool
contains_text text [] = false
contains_text text (first ∷ texts) = bytes_eq first text || contains_text text texts

-- the setting of the first reading: a file's own prefixes alone, with expressions, and `#{` as text
abbrev pub first_setting : Setting
first_setting = record { prefixes = []; brought = []; el = true; hash_is_text = true }

-- a value's text, where it is nothing but text
abbrev pub plain_text : List Part → Option (List ℕ)
plain_text [] = Some []
plain_text (parts.Text text ∷ []) = Some text
plain_text _ = None

-- the text of the first attribute of that name, where there is one and its value is plain
abbrev pub value_of : List ℕ → List Attribute → Option (List ℕ)
value_of name [] = None
value_of name (attribute ∷ attributes) = if bytes_eq attribute.name name then plain_text attribute.parts else value_of name attributes

-- the prefixes that the include directive with this first byte brings
abbrev pub brought_at : ℕ → List BroughtPrefixes → List (List ℕ)
brought_at byte [] = []
brought_at byte (bringing ∷ brought) = if bringing.byte == byte then bringing.prefixes ++ brought_at byte brought else brought_at byte brought

-- the prefixes that a directive registers: a `taglib` its own, an `include` those that it brings
abbrev pub registered_by : List BroughtPrefixes → ℕ → List ℕ → List Attribute → List (List ℕ)
registered_by brought byte name attributes =
    if bytes_eq name (codes "taglib") then option_to_list (value_of (codes "prefix") attributes)
    else if bytes_eq name (codes "include") then brought_at byte brought
    else []

-- the setting behind a piece that begins at this byte: prefixes are registered from their directive on
abbrev pub setting_after : Setting → ℕ → Piece → Setting
setting_after setting byte (pieces.Leaf (leaves.Directive name attributes)) = record setting { prefixes = setting.prefixes ++ registered_by setting.brought byte name attributes }
setting_after setting byte _ = setting
