-- The walk through a page or a tag file in reading order: what is met.
use Rattle.std.specs.Prelude.{ℕ, zero, suc, Bool, true, false, List, [], ◌∷◌, ◌++◌, codes, Option, Some, None, if◌then◌else◌}
use Rattle.std.specs.List.{list_all}
use Rattle.pg_text.specs.declared.place.Place.{Place}
use Rattle.page_pieces.specs.declared.piece.Leaf.{Leaf}
use Rattle.page_pieces.specs.declared.piece.Leaf.TheVariants as leaves
use Rattle.page_pieces.specs.declared.piece.Tag.{Tag}
use Rattle.page_pieces.specs.Names.{is_white}
use Rattle.page_pieces.specs.Settings.{value_of}
use Rattle.page_reader.specs.Trees.{Tree, Opened}
use Rattle.page_directives.specs.Meet.{nothing_before}
use Rattle.page_directives.specs.Directive.{Directive}
use Rattle.page_directives.specs.Faults.{fault_if}
use Rattle.page_directives.specs.Taglibs.{prefixes_in_text}
use Rattle.tag_decl.specs.declared.declaration.TagDecl.{TagDecl}
use Rattle.jstl_tags.specs.declared.core_name.CoreName.TheVariants as core_name
use Rattle.jstl_tags.specs.Around.{in_choose, after_otherwise}
use Rattle.unit_nodes.specs.declared.jsp_name.JspName.TheVariants as jsp
use Rattle.unit_words.specs.Beans.{bean_met}
use Rattle.unit_words.specs.Calls.{Called, called, call_met, declaration_of}
use Rattle.unit_words.specs.Counts.{counts_within}
use Rattle.unit_words.specs.Directives.{directive_met, include_met, goes_in}
use Rattle.unit_words.specs.Elements.{Here, outermost, within, element_faults, values_met}
use Rattle.unit_source.specs.Files.{Files}
use Rattle.unit_source.specs.First.{directive}
use Rattle.unit_source.specs.InPlace.{InPlace, done, leaf, element, broken, included, flat}
use Rattle.unit_words.specs.Kinds.{Kind, core, standard, call, kind_of, is_core_prefix, is_function_prefix}
use Rattle.unit_source.specs.Root.{Root}
use Rattle.unit_words.specs.State.{State, Reading, met, ◌>>◌, faulty, faults_at, needed, with_seen, with_before, with_counts, tag_in}
use Rattle.unit_words.specs.Values.{expression_faults}
use Rattle.pg_text.specs.declared.translation_fault.TranslationFault.{TranslationFault}
use Rattle.pg_text.specs.declared.translation_fault.TranslationFault.TheVariants as fault

-- within a choice, and within its `jsp:body`, nothing but its branches stands
abbrev pub nesting_faults : Here → List TranslationFault
nesting_faults here = fault_if (in_choose here.around) fault.BadNesting

-- but white space
abbrev pub text_faults : Here → List ℕ → List TranslationFault
text_faults here text = if list_all is_white text then [] else nesting_faults here

-- the prefixes that are the functions library's by what stood before
abbrev pub functions_of : State → List ℕ → Bool
functions_of s prefix = is_function_prefix s.before.directives prefix

-- what is met at a leaf
abbrev pub leaf_met : Root → Here → Leaf → Place → State → Reading
leaf_met root here (leaves.Text text) place s = met (faults_at place (text_faults here text)) (with_seen (prefixes_in_text text) s)
leaf_met root here leaves.Comment place s = met [] s
leaf_met root here (leaves.Expr text) place s = met (faults_at place (nesting_faults here ++ expression_faults (functions_of s) text)) s
leaf_met root here leaves.Hash place s = met (faults_at place (nesting_faults here ++ fault.ElNotHere ∷ [])) s
leaf_met root here (leaves.Directive name attributes) place s = directive_met root (directive name attributes place) s

-- from an element on that stands in too many others no file is read
abbrev pub nested : Here → State → State
nested here s = with_counts (counts_within here.deep s.counts) s

-- what the class of a `jsp:useBean` comes to
abbrev pub bean_called : Files → Tag → State → Called
bean_called files tag s = let bean = bean_met files (value_of (codes "class") tag.attributes) s in called bean.faults bean.names bean.state None

-- what an element's file comes to: a tag file, or a bean
abbrev pub file_met : Files → Kind → Tag → State → Called
file_met files (call path) tag s = call_met files path s
file_met files (standard (jsp.UseBean, row)) tag s = bean_called files tag s
file_met files _ tag s = called [] [] s None

-- what the tag file of a call declares
abbrev pub declaration_in : Kind → State → Option TagDecl
declaration_in (call path) s = declaration_of (tag_in path s)
declaration_in _ s = None

-- what is met at the beginning of an element and at its attributes
abbrev pub start_met : Root → Kind → Here → Opened → Tree → Called → Reading
start_met root kind here opened body file =
    let decl = declaration_in kind file.state in
    met (needed file.names
    ++ (faults_at opened.place (file.faults ++ element_faults (is_core_prefix root.directives) root.in_tag decl kind here opened body)
    ++ values_met (functions_of file.state) decl kind opened.tag.attributes)) file.state

-- at its first call reading goes into a tag file
abbrev pub tag_met : (Root → State → Reading) → Option Root → State → Reading
tag_met enter None s = met [] s
tag_met enter (Some root) s = enter root s

-- what stands around behind an element
abbrev pub behind : Kind → Here → Here
behind (core (core_name.Otherwise, row)) here = record { around = after_otherwise here.around; row = here.row; deep = here.deep }
behind _ here = here

-- the same behind nodes in place
abbrev pub behind_all : List Directive → InPlace → Here → Here
behind_all directives done here = here
behind_all directives (leaf kind place next) here = behind_all directives next here
behind_all directives (element opened body next) here = behind_all directives next (behind (kind_of directives opened.tag) here)
behind_all directives (broken fault next) here = behind_all directives next here
behind_all directives (included d entry body next) here = behind_all directives next (behind_all directives body here)

abbrev pub met_if : Bool → (State → Reading) → State → Reading
met_if true go s = go s
met_if false go s = met [] s

-- what is met at these nodes, in reading order: an element before its values, then the tag file of a first call, then the body
abbrev pub walk : Files → Root → (Root → State → Reading) → Here → InPlace → State → Reading
walk files root enter here done s = met [] s
walk files root enter here (leaf kind place next) s = leaf_met root here kind place s >> (λ s1. walk files root enter here next s1)
walk files root enter here (broken fault next) s = met (faulty fault ∷ []) s >> (λ s1. walk files root enter here next s1)
walk files root enter here (included d entry body next) s =
    include_met root d entry s >> (λ s1. met_if (goes_in entry s) (λ s2. walk files root enter here body s2) s1)
    >> (λ s3. walk files root enter (behind_all root.directives body here) next s3)
walk files root enter here (element opened body next) s =
    let kind = kind_of root.directives opened.tag in
    let file = file_met files kind opened.tag (nested here s) in
    start_met root kind here opened (flat body) file >> (λ s1. tag_met enter file.entered s1)
    >> (λ s2. walk files root enter (within kind opened.tag here) body s2) >> (λ s3. walk files root enter (behind kind here) next s3)

-- reading goes back to what stood before
abbrev pub back_to : State → Reading → Reading
back_to s reading = met reading.events (with_before s.before reading.state)

-- what is met in a page or a tag file, and in the tag files that it calls first, so many deep at most
abbrev pub met_within : ℕ → Files → Root → State → Reading
met_within zero files root s = met [] s
met_within (suc deep) files root s = back_to s (walk files root (met_within deep files) outermost root.nodes (with_before nothing_before s))
