-- The table of marks: what begins at a place of a page.
use Rattle.std.specs.Prelude.{◌==◌, ◌&&◌, ◌||◌, if◌then◌else◌, ℕ, Bool, List, Option, Some, None, not, take, drop, codes}
use Rattle.std.specs.Str.{bytes_eq}
use Rattle.page_pieces.specs.declared.setting.Setting.{Setting}
use Rattle.page_pieces.specs.declared.mark.Mark.{Mark}
use Rattle.page_pieces.specs.declared.mark.Mark.TheVariants as marks
use Rattle.page_pieces.specs.Names.{name_len}
use Rattle.page_pieces.specs.Settings.{contains_text}
use Rattle.page_pieces.specs.Texts.{begins, after}

-- the name at the front of a text, and what follows it
abbrev pub name_at : List ℕ → Option (List ℕ × List ℕ)
name_at text = if name_len text == 0 then None else Some (take (name_len text) text, drop (name_len text) text)

-- the prefix, the name and what follows them, where the text begins with a prefix, a colon and a name
pub record TagName : Type 0 where
  pub prefix : List ℕ
  pub name : List ℕ
  pub rest : List ℕ

abbrev pub with_local : List ℕ → Option (List ℕ × List ℕ) → Option TagName
with_local prefix None = None
with_local prefix (Some local) = Some (record { prefix = prefix; name = local.0; rest = local.1 })

abbrev pub with_colon : List ℕ → Option (List ℕ) → Option TagName
with_colon prefix None = None
with_colon prefix (Some rest) = with_local prefix (name_at rest)

abbrev pub with_prefix : Option (List ℕ × List ℕ) → Option TagName
with_prefix None = None
with_prefix (Some prefix) = with_colon prefix.0 (after (codes ":") prefix.1)

unfoldable pub tag_name : List ℕ → Option TagName
tag_name text = with_prefix (name_at text)

-- the prefix is registered, or it is `jsp`
abbrev pub is_known : Setting → List ℕ → Bool
is_known setting prefix = bytes_eq prefix (codes "jsp") || contains_text prefix setting.prefixes

-- the element holds Java
unfoldable pub is_scripting : List ℕ → List ℕ → Bool
is_scripting prefix name = bytes_eq prefix (codes "jsp") && (bytes_eq name (codes "declaration") || bytes_eq name (codes "scriptlet") || bytes_eq name (codes "expression"))

abbrev pub start_mark : Setting → Option TagName → Option Mark
start_mark setting None = None
start_mark setting (Some tag) = if is_scripting tag.prefix tag.name then Some marks.Scripting else if is_known setting tag.prefix then Some marks.Start else None

abbrev pub end_mark : Setting → Option TagName → Option Mark
end_mark setting None = None
end_mark setting (Some tag) = if is_known setting tag.prefix then Some marks.End else None

abbrev pub tag_name_after : Option (List ℕ) → Option TagName
tag_name_after None = None
tag_name_after (Some rest) = tag_name rest

abbrev pub or_else : Option Mark → Option Mark → Option Mark
or_else None other = other
or_else (Some mark) other = Some mark

-- the first row of the table that stands here
unfoldable pub mark_at : Setting → List ℕ → Option Mark
mark_at setting text =
    if begins (codes "<%--") text then Some marks.Comment
    else if begins (codes "<%@") text then Some marks.Directive
    else if begins (codes "<%") text then Some marks.Scripting
    else if begins (codes "<\\%") text then Some marks.EscapedScripting
    else if setting.el && begins (codes "\\$") text then Some marks.EscapedDollar
    else if setting.el && begins (codes "\\#") text then Some marks.EscapedHash
    else if setting.el && begins (codes "${") text then Some marks.Expression
    else if setting.el && (not setting.hash_is_text && begins (codes "#{") text) then Some marks.Hash
    else or_else (start_mark setting (tag_name_after (after (codes "<") text))) (end_mark setting (tag_name_after (after (codes "</") text)))
