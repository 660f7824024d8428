-- What an element is, by what its prefix stands for.
use Rattle.std.specs.Prelude.{ℕ, Bool, true, false, ◌||◌, List, ◌++◌, codes, Option, Some, None, if◌then◌else◌}
use Rattle.std.specs.Str.{bytes_eq}
use Rattle.pg_text.specs.declared.translation_fault.TranslationFault.{TranslationFault}
use Rattle.pg_text.specs.declared.translation_fault.TranslationFault.TheVariants as fault
use Rattle.pg_text.specs.Path.{resolved, segments}
use Rattle.page_pieces.specs.declared.piece.Tag.{Tag}
use Rattle.page_pieces.specs.Settings.{contains_text}
use Rattle.page_pieces.specs.Texts.{begins}
use Rattle.page_directives.specs.Directive.{Directive, row_of}
use Rattle.page_directives.specs.declared.target.Target.{Target}
use Rattle.page_directives.specs.declared.target.Target.TheVariants as target
use Rattle.page_directives.specs.Taglibs.{target_of}
use Rattle.jstl_tags.specs.declared.core_name.CoreName.{CoreName}
use Rattle.jstl_tags.specs.Core.{core_table}
use Rattle.jstl_tags.specs.Rows.{Row}
use Rattle.unit_source.specs.Files.{path_or_none}
use Rattle.unit_nodes.specs.declared.jsp_name.JspName.{JspName}
use Rattle.unit_words.specs.Standard.{standard_table, xml_names, left_out_names}

-- a core tag, a standard action, the call of the tag file at a path, or an element with this fault
pub data Kind : Type 0 where
  core : CoreName × Row → Kind
  standard : JspName × Row → Kind
  call : (path : List ℕ) → Kind
  refused : TranslationFault → Kind

abbrev pub core_kind : Option (CoreName × Row) → Kind
core_kind None = refused fault.NoTag
core_kind (Some found) = core found

-- an element `jsp:` of this name
abbrev pub other_fault : List ℕ → TranslationFault
other_fault name =
    if contains_text name xml_names || begins (codes "directive.") name then fault.XmlSyntax
    else if contains_text name left_out_names then fault.LeftOut else fault.NoTag

abbrev pub standard_kind : List ℕ → Option (JspName × Row) → Kind
standard_kind name None = refused (other_fault name)
standard_kind name (Some found) = standard found

-- the path of a tag file in a folder, where it is one
abbrev pub tag_path : (folder name : List ℕ) → Option (List ℕ)
tag_path folder name = path_or_none (resolved (segments None (folder ++ (codes "/" ++ (name ++ codes ".tag")))))

-- a path that is too long is no tag file's
abbrev pub call_kind : Option (List ℕ) → Kind
call_kind None = refused fault.NoTag
call_kind (Some path) = call path

abbrev pub target_kind : List ℕ → Option Target → Kind
target_kind name None = refused fault.NoTag
target_kind name (Some target.CoreLibrary) = core_kind (row_of name core_table)
target_kind name (Some target.FunctionLibrary) = refused fault.NoTag
target_kind name (Some (target.TagFolder folder)) = call_kind (tag_path folder name)

-- what an element is in a page or tag file with these directives
abbrev pub kind_of : List Directive → Tag → Kind
kind_of directives tag =
    if bytes_eq tag.prefix (codes "jsp") then standard_kind tag.name (row_of tag.name standard_table) else target_kind tag.name (target_of tag.prefix directives)

abbrev pub is_core_target : Option Target → Bool
is_core_target (Some target.CoreLibrary) = true
is_core_target _ = false

abbrev pub is_function_target : Option Target → Bool
is_function_target (Some target.FunctionLibrary) = true
is_function_target _ = false

-- the prefix stands for the core library
abbrev pub is_core_prefix : List Directive → List ℕ → Bool
is_core_prefix directives prefix = is_core_target (target_of prefix directives)

-- the same of the functions library
abbrev pub is_function_prefix : List Directive → List ℕ → Bool
is_function_prefix directives prefix = is_function_target (target_of prefix directives)
