-- What the directives of a tag file declare.
use Rattle.std.specs.Prelude.{ℕ, false, not, List, [], ◌∷◌, ◌++◌, codes, Option, Some, None, if◌then◌else◌}
use Rattle.std.specs.List.{find}
use Rattle.std.specs.Option.{unwrap_or, option_or}
use Rattle.std.specs.Str.{bytes_eq}
use Rattle.page_pieces.specs.declared.attribute.Attribute.{Attribute}
use Rattle.page_pieces.specs.Repeats.{has_name}
use Rattle.page_pieces.specs.Settings.{value_of}
use Rattle.page_directives.specs.Directive.{Directive, is_named, row_of}
use Rattle.page_directives.specs.Settings.{given, decided, is_value, truth_or}
use Rattle.page_directives.specs.Tables.{tag_table}
use Rattle.tag_decl.specs.declared.declaration.AttrDecl.{AttrDecl}
use Rattle.tag_decl.specs.declared.declaration.VarDecl.{VarDecl}
use Rattle.tag_decl.specs.declared.declaration.TagDecl.{TagDecl}
use Rattle.tag_decl.specs.declared.declaration.AttrKind.{AttrKind}
use Rattle.tag_decl.specs.declared.declaration.AttrKind.TheVariants as kind
use Rattle.tag_decl.specs.declared.declaration.VarScope.{VarScope}
use Rattle.tag_decl.specs.declared.declaration.VarScope.TheVariants as var_scope
use Rattle.tag_decl.specs.declared.declaration.BodyKind.{BodyKind}
use Rattle.tag_decl.specs.declared.declaration.BodyKind.TheVariants as body_kind

-- the types of attributes
abbrev pub types : List (List ℕ × AttrKind)
types =
    (codes "java.lang.String", kind.Text) ∷ (codes "java.lang.Long", kind.Number) ∷ (codes "java.lang.Integer", kind.Number) ∷ (codes "java.lang.Boolean", kind.Truth)
    ∷ (codes "java.lang.Object", kind.Any) ∷ (codes "java.util.List", kind.Any) ∷ (codes "java.util.Collection", kind.Any) ∷ (codes "java.util.Map", kind.Any) ∷ []

abbrev pub var_scopes : List (List ℕ × VarScope)
var_scopes = (codes "NESTED", var_scope.Nested) ∷ (codes "AT_BEGIN", var_scope.AtBegin) ∷ (codes "AT_END", var_scope.AtEnd) ∷ []

abbrev pub bodies : List (List ℕ × BodyKind)
bodies = (codes "scriptless", body_kind.Scriptless) ∷ (codes "empty", body_kind.Empty) ∷ (codes "tagdependent", body_kind.TagDependent) ∷ []

-- what a value names in a table, or else what stands for none
abbrev pub named_or : {A : Type 0} → A → List (List ℕ × A) → Option (List ℕ) → A
named_or other table None = other
named_or other table (Some name) = unwrap_or (row_of name table) other

-- the type of an attribute: text where none is written, and where one is written that isn't known, any
abbrev pub kind_in : List Attribute → AttrKind
kind_in attributes = if has_name (codes "type") attributes then named_or kind.Any types (value_of (codes "type") attributes) else kind.Text

-- the attribute that an `attribute` directive with this name declares; it takes expressions unless it says that it doesn't
abbrev pub attribute_named : List Attribute → List ℕ → AttrDecl
attribute_named attributes name = record {
  name = name;
  required = truth_or false (value_of (codes "required") attributes);
  fragment = truth_or false (value_of (codes "fragment") attributes);
  expression = not (is_value (codes "false") (value_of (codes "rtexprvalue") attributes));
  kind = kind_in attributes;
}

abbrev pub attribute_in : List Attribute → Option (List ℕ) → List AttrDecl
attribute_in attributes None = []
attribute_in attributes (Some name) = attribute_named attributes name ∷ []

-- the attributes that directives declare, in the order written
abbrev pub attributes_of : List Directive → List AttrDecl
attributes_of [] = []
attributes_of (d ∷ ds) = (if is_named (codes "attribute") d then attribute_in d.attributes (value_of (codes "name") d.attributes) else []) ++ attributes_of ds

-- the name of a variable in the tag file: its given name, or its alias
abbrev pub variable_name : List Attribute → Option (List ℕ)
variable_name attributes = option_or (value_of (codes "name-given") attributes) (value_of (codes "alias") attributes)

abbrev pub variable_in : List Attribute → Option (List ℕ) → List VarDecl
variable_in attributes None = []
variable_in attributes (Some name) = record {
  name = name;
  from = value_of (codes "name-from-attribute") attributes;
  scope = named_or var_scope.Nested var_scopes (value_of (codes "scope") attributes);
} ∷ []

-- the variables that directives declare, in the order written
abbrev pub variables_of : List Directive → List VarDecl
variables_of [] = []
variables_of (d ∷ ds) = (if is_named (codes "variable") d then variable_in d.attributes (variable_name d.attributes) else []) ++ variables_of ds

-- what the directives of a tag file declare
unfoldable pub declaration : List Directive → TagDecl
declaration ds = record {
  attributes = attributes_of ds;
  variables = variables_of ds;
  body = named_or body_kind.Scriptless bodies (decided tag_table (codes "body-content") (given (codes "tag") ds));
  dynamic = decided tag_table (codes "dynamic-attributes") (given (codes "tag") ds);
}

-- the declaration of an attribute
abbrev pub declared : List ℕ → List AttrDecl → Option AttrDecl
declared name decls = find (λ decl. bytes_eq decl.name name) decls
