-- The unit of a page: the page, or the first fault that reading meets; and the names on which it depends.
use Rattle.std.specs.Prelude.{ℕ, Bool, false, List, [], ◌∷◌, codes, map, Option, Some, None, Result, Ok, Err, nat_eq, if◌then◌else◌}
use Rattle.std.specs.List.{ends_with}
use Rattle.std.specs.Option.{option_map}
use Rattle.pg_text.specs.declared.translation_fault.TranslationFault.{TranslationFault}
use Rattle.pg_text.specs.declared.translation_fault.TranslationFault.TheVariants as fault
use Rattle.pg_text.specs.declared.place.PageFault.{PageFault}
use Rattle.pg_text.specs.Names.{with_name}
use Rattle.pg_value.specs.Attrs.{of_entries}
use Rattle.pg_value.specs.Datum.{Datum}
use Rattle.tag_decl.specs.Declare.{declaration}
use Rattle.unit_words.specs.Counts.{page_alone}
use Rattle.unit_words.specs.Build.{built}
use Rattle.unit_source.specs.Files.{Files}
use Rattle.unit_source.specs.First.{most_deep}
use Rattle.unit_nodes.specs.Nodes.{Page, TagFile}
use Rattle.unit_source.specs.Root.{Root, rooted}
use Rattle.unit_words.specs.Own.{root_directives}
use Rattle.unit_words.specs.State.{Event, faulty, needs, State, Reading, followed, needed}
use Rattle.unit_words.specs.Walk.{met_within}
use Rattle.page_directives.specs.Meet.{nothing_before}

-- a page in XML syntax isn't read
abbrev pub is_xml : List ℕ → Bool
is_xml path = ends_with nat_eq path (codes ".jspx")

-- the page alone is read
abbrev pub begun : ℕ → State
begun bytes = record { before = nothing_before; tags = []; beans = []; counts = page_alone bytes }

-- what is met in a page
abbrev pub page_met : Files → Root → Reading
page_met files page = followed (needed (page.path ∷ page.names)) (met_within most_deep files page (begun page.bytes))

-- the first fault that is met
abbrev pub first_fault : List Event → Option PageFault
first_fault [] = None
first_fault (faulty fault ∷ events) = Some fault
first_fault (needs name ∷ events) = first_fault events

-- the names that are met
abbrev pub names_met : List Event → List (List ℕ)
names_met [] = []
names_met (faulty fault ∷ events) = names_met events
names_met (needs name ∷ events) = name ∷ names_met events

-- these names and others in byte order, each once
abbrev pub names_with : List (List ℕ) → List (List ℕ) → List (List ℕ)
names_with kept [] = kept
names_with kept (name ∷ names) = names_with (with_name name kept) names

abbrev pub names_in_order : List (List ℕ) → List (List ℕ)
names_in_order names = names_with [] names

abbrev pub tag_file : Root → TagFile
tag_file root = record { path = root.path; decl = declaration (root_directives root); settings = root.settings; nodes = built root.directives root.nodes }

-- a bean before others, where it has no fault
abbrev pub good_before : List ℕ → Result Datum TranslationFault → List (List ℕ × Datum) → List (List ℕ × Datum)
good_before class (Ok bean) beans = (class, bean) ∷ beans
good_before class (Err fault) beans = beans

-- the classes whose bean has no fault, each with its bean
abbrev pub good_beans : List (List ℕ × Result Datum TranslationFault) → List (List ℕ × Datum)
good_beans [] = []
good_beans (read ∷ beans) = good_before read.0 read.1 (good_beans beans)

-- the same in byte order of classes; each class was read once
abbrev pub beans_in_order : List (List ℕ × Result Datum TranslationFault) → List (List ℕ × Datum)
beans_in_order beans = of_entries (good_beans beans)

-- the page that was read, where no fault was met
abbrev pub page_of : Root → State → Page
page_of page s = record {
  path = page.path;
  nodes = built page.directives page.nodes;
  settings = page.settings;
  tags = map tag_file s.tags;
  beans = beans_in_order s.beans;
}

-- a unit: its dependencies in byte order, and a page or its fault
pub record Unit : Type 0 where
  pub deps : List (List ℕ)
  pub body : Result Page PageFault

-- the fault of a unit, where it has one
abbrev pub fault_in : Result Page PageFault → Option PageFault
fault_in (Ok page) = None
fault_in (Err fault) = Some fault

abbrev pub body_of : Root → Reading → Option PageFault → Result Page PageFault
body_of page reading (Some fault) = Err fault
body_of page reading None = Ok (page_of page reading.state)

abbrev pub unit_by : Root → Reading → Unit
unit_by page reading = record { deps = names_in_order (names_met reading.events); body = body_of page reading (first_fault reading.events) }

abbrev pub unit_read : Files → Root → Unit
unit_read files page = unit_by page (page_met files page)

abbrev pub xml_unit : List ℕ → Unit
xml_unit path = record { deps = path ∷ []; body = Err (record { fault = fault.XmlSyntax; place = record { file = path; byte = 0; line = 1; column = 1 } }) }

-- the unit of the page at a path with this text
abbrev pub unit_of : Files → (path text : List ℕ) → Unit
unit_of files path text = if is_xml path then xml_unit path else unit_read files (rooted files false path text)

-- the unit of the page at a path, where a file stands there
abbrev pub unit_at : Files → (path : List ℕ) → Option Unit
unit_at files path = option_map (unit_of files path) (files path)
