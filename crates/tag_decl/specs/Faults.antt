-- The faults of the directives that declare.
use Rattle.std.specs.Prelude.{ℕ, Bool, true, false, not, ◌&&◌, ◌||◌, List, [], ◌∷◌, ◌++◌, codes, map, Option, Some, None, if◌then◌else◌}
use Rattle.pg_text.specs.declared.translation_fault.TranslationFault.{TranslationFault}
use Rattle.pg_text.specs.declared.translation_fault.TranslationFault.TheVariants as fault
use Rattle.page_pieces.specs.declared.attribute.Attribute.{Attribute}
use Rattle.page_pieces.specs.Repeats.{has_name, has_repeat}
use Rattle.page_pieces.specs.Settings.{contains_text, value_of}
use Rattle.page_directives.specs.Checks.{Table, anything, something, one_of, left_out_but, truths, attribute_faults}
use Rattle.page_directives.specs.Directive.{Directive, is_named}
use Rattle.page_directives.specs.Faults.{fault_if, is_good}
use Rattle.page_directives.specs.Settings.{setting_faults, is_value}
use Rattle.tag_decl.specs.declared.declaration.AttrDecl.{AttrDecl}
use Rattle.tag_decl.specs.declared.declaration.AttrKind.{AttrKind}
use Rattle.tag_decl.specs.declared.declaration.AttrKind.TheVariants as kind
use Rattle.tag_decl.specs.Declare.{types, attributes_of, variables_of, declared}

abbrev pub names_in : {A : Type 0} → List (List ℕ × A) → List (List ℕ)
names_in table = map (λ row. row.0) table

unfoldable pub attribute_table : Table
attribute_table =
    (codes "name", something) ∷ (codes "required", one_of truths) ∷ (codes "fragment", one_of truths) ∷ (codes "rtexprvalue", one_of truths)
    ∷ (codes "type", left_out_but (names_in types)) ∷ (codes "description", anything) ∷ []

unfoldable pub variable_table : Table
variable_table =
    (codes "name-given", something) ∷ (codes "name-from-attribute", something) ∷ (codes "alias", something)
    ∷ (codes "scope", one_of (codes "NESTED" ∷ codes "AT_BEGIN" ∷ codes "AT_END" ∷ [])) ∷ (codes "variable-class", anything) ∷ (codes "declare", anything)
    ∷ (codes "description", anything) ∷ []

-- the names that directives declare
abbrev pub declared_names : List Directive → List (List ℕ)
declared_names ds = map (λ a. a.name) (attributes_of ds) ++ map (λ v. v.name) (variables_of ds)

-- a name that was declared before is Clash
abbrev pub clash_faults : List Directive → List (List ℕ) → List TranslationFault
clash_faults before [] = []
clash_faults before (name ∷ names) = fault_if (contains_text name (declared_names before)) fault.Clash

-- the faults of an `attribute` directive behind the directives before it: a fragment has neither `type` nor `rtexprvalue`
unfoldable pub attribute_directive_faults : List Directive → Directive → List TranslationFault
attribute_directive_faults before d =
    let attributes = d.attributes in
    attribute_faults attribute_table attributes
    ++ (fault_if (not (has_name (codes "name") attributes)) fault.BadDirective
    ++ (fault_if (is_value (codes "true") (value_of (codes "fragment") attributes) && (has_name (codes "type") attributes || has_name (codes "rtexprvalue") attributes)) fault.BadDirective
    ++ (fault_if (has_repeat attributes) fault.BadAttribute
    ++ clash_faults before (declared_names (d ∷ [])))))

abbrev pub is_text : AttrKind → Bool
is_text kind.Text = true
is_text _ = false

-- an attribute may name a variable: it is required, takes no expression, and its type is String
abbrev pub may_name : Option AttrDecl → Bool
may_name None = false
may_name (Some a) = a.required && (not a.expression && (is_text a.kind && not a.fragment))

-- the attribute that names a variable is declared so, anywhere in the tag file
abbrev pub is_named_well : List AttrDecl → Option (List ℕ) → Bool
is_named_well decls None = false
is_named_well decls (Some name) = may_name (declared name decls)

-- a variable has a given name, or the name of an attribute's value and an alias
abbrev pub has_one_name : List Attribute → Bool
has_one_name attributes =
    if has_name (codes "name-given") attributes
    then not (has_name (codes "name-from-attribute") attributes) && not (has_name (codes "alias") attributes)
    else has_name (codes "name-from-attribute") attributes && has_name (codes "alias") attributes

-- the faults of a `variable` directive of a tag file with these declarations, behind the directives before it
unfoldable pub variable_directive_faults : List AttrDecl → List Directive → Directive → List TranslationFault
variable_directive_faults decls before d =
    let attributes = d.attributes in
    attribute_faults variable_table attributes
    ++ (fault_if (not (has_one_name attributes)) fault.BadDirective
    ++ (fault_if (has_name (codes "name-from-attribute") attributes && not (is_named_well decls (value_of (codes "name-from-attribute") attributes))) fault.BadDirective
    ++ (fault_if (has_repeat attributes) fault.BadAttribute
    ++ clash_faults before (declared_names (d ∷ [])))))

-- the faults of what a directive of a tag file with these declarations declares, behind the directives before it
unfoldable pub declaring_faults : List AttrDecl → List Directive → Directive → List TranslationFault
declaring_faults decls before d =
    if is_named (codes "attribute") d then attribute_directive_faults before d
    else if is_named (codes "variable") d then variable_directive_faults decls before d
    else []

-- the faults of a directive for which a call isn't checked
abbrev pub any_faults : List AttrDecl → List Directive → Directive → List TranslationFault
any_faults decls before d = if is_named (codes "tag") d then setting_faults true [] before d else declaring_faults decls before d

abbrev pub are_good : List AttrDecl → List Directive → List Directive → Bool
are_good decls before [] = true
are_good decls before (d ∷ ds) = is_good (any_faults decls before d) && are_good decls (before ++ d ∷ []) ds

-- the directives of a tag file that declare have no fault
abbrev pub is_good_declaration : List Directive → Bool
is_good_declaration ds = are_good (attributes_of ds) [] ds
