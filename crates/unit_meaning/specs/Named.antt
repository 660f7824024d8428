-- What the attributes of an action name: texts without expressions, scopes, variables and properties.
use Rattle.std.specs.Prelude.{ℕ, List, [], ◌∷◌, ◌++◌, codes, map, Option, if◌then◌else◌}
use Rattle.std.specs.List.{find, list_any}
use Rattle.std.specs.Option.{option_map, unwrap_or}
use Rattle.std.specs.Str.{bytes_eq}
use Rattle.el_reader.specs.Tree.{Tree, name}
use Rattle.page_meaning.specs.Page as page
use Rattle.pg_value.specs.declared.scope.Scope.{Scope}
use Rattle.pg_value.specs.declared.scope.Scope.TheVariants as scope
use Rattle.unit_nodes.specs.Nodes as unit
use Rattle.unit_nodes.specs.Nodes.{Given, Part}

-- a part as a part
abbrev pub part_of : Part → page.Part
part_of (unit.words t) = page.words t
part_of (unit.expression e) = page.expression e

-- the text of parts that hold no expression
abbrev pub plain_text : List Part → List ℕ
plain_text [] = []
plain_text (unit.words t ∷ rest) = t ++ plain_text rest
plain_text (unit.expression e ∷ rest) = plain_text rest

-- the text of the attribute of a name, where it was written
abbrev pub static_text : List ℕ → List Given → Option (List ℕ)
static_text wanted attributes = option_map (λ a. plain_text a.parts) (find (λ a. bytes_eq wanted a.name) attributes)

-- the scope of a name; page scope of any other
abbrev pub scope_named : List ℕ → Scope
scope_named s =
    if bytes_eq s (codes "request") then scope.Request
    else (if bytes_eq s (codes "session") then scope.Session
    else (if bytes_eq s (codes "application") then scope.Application
    else scope.Page))

-- the variable that attributes name
abbrev pub variable_in : List Given → page.Variable
variable_in attributes = record { name = unwrap_or (static_text (codes "var") attributes) []; scope = option_map scope_named (static_text (codes "scope") attributes) }

-- the same, where they name one
abbrev pub some_variable : List Given → Option page.Variable
some_variable attributes = option_map (λ name. variable_in attributes) (static_text (codes "var") attributes)

-- the name that an expression is, where it is one
abbrev pub name_in : Tree → List ℕ
name_in (name n) = n
name_in other = []

-- the variable whose entry `c:set` sets, where it sets one
abbrev pub target_of : List Part → List ℕ
target_of (unit.expression e ∷ rest) = name_in e
target_of other = []

-- the variable that the attribute `target` names, where there is one
abbrev pub target_in : List Given → Option (List ℕ)
target_in attributes = option_map (λ a. target_of a.parts) (find (λ a. bytes_eq (codes "target") a.name) attributes)

-- what `jsp:setProperty` sets
abbrev pub property_in : List Given → page.Property
property_in attributes = property (unwrap_or (static_text (codes "property") attributes) [])
  where
    property : List ℕ → page.Property
    property p = if bytes_eq p (codes "*") then page.every else page.one p (unwrap_or (static_text (codes "param") attributes) p)

-- the attributes of core tags that say what is named, and aren't evaluated as the others are
abbrev pub core_statics : List (List ℕ)
core_statics = codes "var" ∷ codes "varStatus" ∷ codes "scope" ∷ codes "target" ∷ []

-- the attributes of standard actions that say what is named, and aren't evaluated as the others are
abbrev pub jsp_statics : List (List ℕ)
jsp_statics = codes "name" ∷ codes "flush" ∷ codes "property" ∷ codes "param" ∷ codes "fragment" ∷ codes "var" ∷ codes "scope" ∷ []

-- the attributes of other names, in the order written, before others
abbrev pub written_before : (statics : List (List ℕ)) → List Given → page.Attributes → page.Attributes
written_before statics [] others = others
written_before statics (a ∷ rest) others =
    if list_any (bytes_eq a.name) statics then written_before statics rest others
    else page.written a.name (map part_of a.parts) a.place (written_before statics rest others)

-- the text of an attribute, or the empty text
abbrev pub text_of_attribute : List ℕ → List Given → List ℕ
text_of_attribute wanted attributes = unwrap_or (static_text wanted attributes) []
