-- What is met in parts of a walk, as the program meets it.
use Rattle.std.specs.Prelude.{◌≡◌, Bool, List, ◌++◌, filter, Option}
use Rattle.pg_text.specs.declared.translation_fault.TranslationFault.{TranslationFault}
use Rattle.page_reader.specs.Trees.{Tree, Opened}
use Rattle.page_directives.specs.Faults.{in_order}
use Rattle.page_directives.specs.Meet.{Before, nothing_before}
use Rattle.source_tree.specs.declared.file.File.{File}
use Rattle.tag_decl.specs.declared.declaration.TagDecl.{TagDecl}
use Rattle.unit_source.specs.declared.entry.Entry.{Entry}
use Rattle.unit_source.specs.Files.{text_in}
use Rattle.unit_source.specs.Root.{Root}
use Rattle.unit_words.specs.Calls.{Called}
use Rattle.unit_words.specs.Directives.{behind_entry, entry_faults, goes_in}
use Rattle.unit_words.specs.Elements.{Here, element_faults, values_met}
use Rattle.unit_words.specs.Kinds.{Kind, is_core_prefix, is_function_prefix}
use Rattle.unit_words.specs.Own.{stands_in}
use Rattle.unit_words.specs.State.{Event, Reading, faults_at}
use Rattle.unit_words.specs.Unit.{first_fault, names_in_order, names_met, names_with, page_met}
use Rattle.unit_words.specs.Walk.{start_met}
use Rattle.unit_build.specs.declared.course.Course.{Course}
use Rattle.unit_build.specs.declared.found.Found.{Found}
use Rattle.unit_build.specs.ReadFound.{state_in, IsRead, fault_behind}

-- the directives of the file itself that are kept are those of it that stood before
abbrev pub IsOwn : Course → Type 0
IsOwn course = course.own ≡ filter (stands_in course.root.path) course.before.directives

-- the faults of an element whose file comes to these, and those of its values
abbrev pub start_events : Root → Kind → Here → Opened → Tree → List TranslationFault → Before → Option TagDecl → List Event
start_events root kind here opened body comes before decl =
    faults_at opened.place (comes ++ element_faults (is_core_prefix root.directives) root.in_tag decl kind here opened body)
    ++ values_met (is_function_prefix before.directives) decl kind opened.tag.attributes

-- what was found, and then the beginning of an element whose file comes to this; the tag file where this is its first call is answered
pub record IsStarted (old new : Found) (root : Root) (kind : Kind) (here : Here) (opened : Opened) (body : Tree) (before : Before) (answered : Option Root) (file : Called) : Type 0 where
  pub entered : answered ≡ file.entered
  pub read : IsRead old new (state_in before new) (start_met root kind here opened body file)

-- what was found, and then what an include directive comes to, but for its faults: these are answered, and whether reading goes into its file
pub record IsEntry (old new : Found) (before : Before) (entry : Entry) (answered : List TranslationFault) (going : Bool) : Type 0 where
  pub faults : answered ≡ in_order (entry_faults entry (state_in before old))
  pub goes : going ≡ goes_in entry (state_in before old)
  pub fault : new.fault ≡ old.fault
  pub names : new.names ≡ old.names
  pub site : new.site ≡ old.site
  pub state : state_in before new ≡ behind_entry entry (state_in before old)

-- what was found, and what is left to meet, give what the whole gives
pub record Leads (old now : Found) (rest all : Reading) : Type 0 where
  pub fault : fault_behind now.fault rest.events ≡ fault_behind old.fault all.events
  pub names : names_with now.names (names_met rest.events) ≡ names_with old.names (names_met all.events)
  pub site : now.site ≡ old.site
  pub state : rest.state ≡ all.state

-- what was found is what reading this page meets
pub record IsPageMet (tree : List File) (page : Root) (found : Found) : Type 0 where
  pub fault : found.fault ≡ first_fault (page_met (text_in tree) page).events
  pub names : found.names ≡ names_in_order (names_met (page_met (text_in tree) page).events)
  pub site : found.site ≡ tree
  pub state : state_in nothing_before found ≡ (page_met (text_in tree) page).state
