-- The call of a tag file: what it comes to, and its faults by what the tag file declares.
use Rattle.std.specs.Prelude.{ℕ, Bool, true, false, not, ◌&&◌, List, [], ◌∷◌, ◌++◌, Option, Some, None, length, if◌then◌else◌}
use Rattle.std.specs.List.{list_any}
use Rattle.std.specs.Option.{is_some}
use Rattle.page_pieces.specs.declared.attribute.Attribute.{Attribute}
use Rattle.page_pieces.specs.Settings.{contains_text, plain_text}
use Rattle.page_reader.specs.Trees.{Tree, Opened}
use Rattle.page_directives.specs.Faults.{fault_if}
use Rattle.tag_decl.specs.declared.declaration.AttrDecl.{AttrDecl}
use Rattle.tag_decl.specs.declared.declaration.TagDecl.{TagDecl}
use Rattle.tag_decl.specs.declared.declaration.BodyKind.{BodyKind}
use Rattle.tag_decl.specs.declared.declaration.BodyKind.TheVariants as body_kind
use Rattle.tag_decl.specs.Declare.{attributes_of, declaration, declared}
use Rattle.tag_decl.specs.Faults.{are_good}
use Rattle.jstl_tags.specs.Check.{repeats, is_whole, split_faults}
use Rattle.jstl_tags.specs.Content.{given_names, attribute_names, body_of, is_empty}
use Rattle.unit_source.specs.Files.{Files}
use Rattle.unit_source.specs.Root.{Root, rooted}
use Rattle.unit_words.specs.Own.{judged_directives, root_directives}
use Rattle.unit_words.specs.declared.counts.Counted.{Counted}
use Rattle.unit_words.specs.Counts.{counted, count_faults, is_counted}
use Rattle.unit_words.specs.State.{State, behind_count, tag_in}
use Rattle.pg_text.specs.declared.translation_fault.TranslationFault.{TranslationFault}
use Rattle.pg_text.specs.declared.translation_fault.TranslationFault.TheVariants as fault

-- what a call comes to: faults, names, the state behind it, and the tag file where this is its first call
pub record Called : Type 0 where
  pub faults : List TranslationFault
  pub names : List (List ℕ)
  pub state : State
  pub entered : Option Root

abbrev pub called : List TranslationFault → List (List ℕ) → State → Option Root → Called
called faults names state entered = record { faults = faults; names = names; state = state; entered = entered }

-- a tag file is read at its first call
abbrev pub first_call : (path : List ℕ) → Root → State → Called
first_call path root s = called [] (path ∷ root.names) (record s { tags = s.tags ++ root ∷ [] }) (Some root)

abbrev pub call_counted : Files → (path text : List ℕ) → Counted → State → Called
call_counted files path text count s =
    if is_counted count then first_call path (rooted files true path text) (behind_count (length text) s)
    else called (count_faults count) (path ∷ []) (behind_count (length text) s) None

-- a tag file that is absent is NoTag
abbrev pub call_text : Files → (path : List ℕ) → Option (List ℕ) → State → Called
call_text files path None s = called (fault.NoTag ∷ []) (path ∷ []) s None
call_text files path (Some text) s =
    if is_some (tag_in path s) then called [] (path ∷ []) s None else call_counted files path text (counted (length text) s.counts) s

abbrev pub call_met : Files → (path : List ℕ) → State → Called
call_met files path s = call_text files path (files path) s

-- the declarations of a tag file have no fault
abbrev pub is_declared_well : Root → Bool
is_declared_well root = are_good (attributes_of (root_directives root)) [] (judged_directives root)

-- what a tag file declares, where its declarations have no fault
abbrev pub declaration_of : Option Root → Option TagDecl
declaration_of None = None
declaration_of (Some root) = if is_declared_well root then Some (declaration (root_directives root)) else None

-- the faults of a name that is given: it isn't declared, or it is a fragment's and written as an attribute
abbrev pub name_faults : Bool → (is_written : Bool) → Option AttrDecl → List TranslationFault
name_faults dynamic is_written None = fault_if (not dynamic) fault.BadAttribute
name_faults dynamic is_written (Some a) = fault_if (a.fragment && is_written) fault.BadAttribute

abbrev pub names_faults : TagDecl → (written : List (List ℕ)) → List (List ℕ) → List TranslationFault
names_faults decl written [] = []
names_faults decl written (name ∷ names) =
    name_faults (is_some decl.dynamic) (contains_text name written) (declared name decl.attributes) ++ names_faults decl written names

-- a declared attribute is required and not given
abbrev pub lacks_required : List AttrDecl → List (List ℕ) → Bool
lacks_required decls given = list_any (λ a. a.required && not (contains_text a.name given)) decls

abbrev pub is_empty_kind : BodyKind → Bool
is_empty_kind body_kind.Empty = true
is_empty_kind _ = false

-- the faults of a call by the declaration
abbrev pub declared_faults : Option TagDecl → Opened → Tree → List (List ℕ) → List TranslationFault
declared_faults None opened body given = []
declared_faults (Some decl) opened body given =
    names_faults decl (attribute_names opened.tag.attributes) given
    ++ (fault_if (is_whole opened.closing && lacks_required decl.attributes given) fault.BadAttribute
    ++ fault_if (is_empty_kind decl.body && not (is_empty (body_of opened.tag body))) fault.BadBody)

-- the faults of a call at its beginning
abbrev pub call_faults : Option TagDecl → Opened → Tree → List TranslationFault
call_faults decl opened body =
    let given = given_names opened.tag body in
    fault_if (repeats given) fault.BadAttribute ++ (split_faults opened.tag body ++ declared_faults decl opened body given)

abbrev pub takes_none : Option AttrDecl → Bool
takes_none None = false
takes_none (Some a) = not a.expression && not a.fragment

-- an expression for an attribute that takes none
abbrev pub call_value_faults : Option TagDecl → Attribute → List TranslationFault
call_value_faults None a = []
call_value_faults (Some decl) a = fault_if (takes_none (declared a.name decl.attributes) && not (is_some (plain_text a.parts))) fault.BadAttribute
