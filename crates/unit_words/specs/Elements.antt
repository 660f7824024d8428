-- The faults of an element at its beginning, and of the values of its attributes.
use Rattle.std.specs.Prelude.{ℕ, Bool, false, ◌&&◌, List, [], ◌∷◌, ◌++◌, codes, Option, Some, None, nat_le, take, if◌then◌else◌}
use Rattle.page_pieces.specs.declared.attribute.Attribute.{Attribute}
use Rattle.page_pieces.specs.declared.piece.Tag.{Tag}
use Rattle.page_pieces.specs.Settings.{contains_text, value_of}
use Rattle.page_reader.specs.Trees.{Tree, Opened}
use Rattle.page_directives.specs.Directive.{row_of}
use Rattle.page_directives.specs.Faults.{fault_if}
use Rattle.tag_decl.specs.declared.declaration.TagDecl.{TagDecl}
use Rattle.jstl_tags.specs.declared.rows.Takes.{Takes}
use Rattle.jstl_tags.specs.declared.rows.Takes.TheVariants as takes
use Rattle.jstl_tags.specs.Rows.{Row}
use Rattle.jstl_tags.specs.Content.{given_names, takes_parts}
use Rattle.jstl_tags.specs.Around.{Host, core_host, standard_host, call_host, other_host, Around}
use Rattle.jstl_tags.specs.Check.{row_faults, core_faults, child_faults, place_faults, taken_faults}
use Rattle.unit_nodes.specs.declared.jsp_name.JspName.{JspName}
use Rattle.unit_nodes.specs.declared.jsp_name.JspName.TheVariants as jsp
use Rattle.unit_words.specs.Calls.{call_faults, call_value_faults}
use Rattle.unit_source.specs.Splice.{level_within, most_nested}
use Rattle.unit_words.specs.Kinds.{Kind, core, standard, call, refused}
use Rattle.unit_words.specs.State.{Event, faults_at}
use Rattle.unit_words.specs.Values.{part_faults}
use Rattle.pg_text.specs.declared.translation_fault.TranslationFault.{TranslationFault}
use Rattle.pg_text.specs.declared.translation_fault.TranslationFault.TheVariants as fault

-- what stands around: of the elements around the two innermost, the innermost first; the row of that one where it takes parts; and how many there
-- are, counted up to one more than there may be
pub record Here : Type 0 where
  pub around : Around
  pub row : Option Row
  pub deep : ℕ

abbrev pub outermost : Here
outermost = record { around = []; row = None; deep = 0 }

abbrev pub host : Kind → Tag → Host
host (core found) tag = core_host found.0 false
host (standard found) tag = standard_host tag.name
host (call path) tag = call_host
host _ tag = other_host

abbrev pub row_in : Kind → Option Row
row_in (core found) = Some found.1
row_in (standard found) = Some found.1
row_in _ = None

-- within an element
abbrev pub within : Kind → Tag → Here → Here
within kind tag here = record { around = host kind tag ∷ take 1 here.around; row = if takes_parts tag then row_in kind else None; deep = level_within here.deep }

-- the fault of an attribute that `jsp:attribute` gives, by what it takes; one that is unknown or left out is refused at its action
abbrev pub given_value_faults : Option Takes → List TranslationFault
given_value_faults None = []
given_value_faults (Some takes.AnyValue) = []
given_value_faults (Some takes.LeftOut) = []
given_value_faults (Some takes.OneName) = fault.LeftOut ∷ []
given_value_faults (Some _) = fault.BadAttribute ∷ []

-- the fault of a `jsp:attribute` of that name in an action of that row
abbrev pub attribute_faults : Option (List ℕ) → Option Row → List TranslationFault
attribute_faults (Some name) (Some row) = given_value_faults (row_of name row.attributes)
attribute_faults _ _ = []

-- what a row doesn't say: `jsp:attribute` gives no attribute that takes no expression, and no `target`; `jsp:setProperty` has one of its two sources
abbrev pub own_faults : JspName → Here → Opened → Tree → List TranslationFault
own_faults jsp.Attribute here opened body = attribute_faults (value_of (codes "name") opened.tag.attributes) here.row
own_faults jsp.SetProperty here opened body =
    let given = given_names opened.tag body in fault_if (contains_text (codes "value") given && contains_text (codes "param") given) fault.BadAttribute
own_faults _ here opened body = []

-- the faults of an element by its kind; `library` says which prefixes are the core library's
abbrev pub kind_faults : (List ℕ → Bool) → (in_tag : Bool) → Option TagDecl → Kind → Here → Opened → Tree → List TranslationFault
kind_faults library in_tag decl (core found) here opened body = core_faults library found here.around opened body
kind_faults library in_tag decl (standard found) here opened body =
    place_faults in_tag found.1.stands here.around ++ (row_faults library found.1 opened body ++ own_faults found.0 here opened body)
kind_faults library in_tag decl (call path) here opened body = child_faults here.around ++ call_faults decl opened body
kind_faults library in_tag decl (refused found) here opened body = found ∷ child_faults here.around

-- the faults of an element at its beginning
abbrev pub element_faults : (List ℕ → Bool) → (in_tag : Bool) → Option TagDecl → Kind → Here → Opened → Tree → List TranslationFault
element_faults library in_tag decl kind here opened body = fault_if (nat_le most_nested here.deep) fault.TooLarge ++ kind_faults library in_tag decl kind here opened body

-- the faults of a value by its element's kind
abbrev pub value_faults : Option TagDecl → Kind → Attribute → List TranslationFault
value_faults decl (core found) a = taken_faults (row_of a.name found.1.attributes) a.parts
value_faults decl (standard found) a = taken_faults (row_of a.name found.1.attributes) a.parts
value_faults decl (call path) a = call_value_faults decl a
value_faults decl _ a = []

-- what is met at the values of attributes, one after the other; `functions` says which prefixes are the functions library's
abbrev pub values_met : (functions : List ℕ → Bool) → Option TagDecl → Kind → List Attribute → List Event
values_met functions decl kind [] = []
values_met functions decl kind (a ∷ attributes) =
    faults_at a.place (value_faults decl kind a ++ part_faults functions a.parts) ++ values_met functions decl kind attributes
