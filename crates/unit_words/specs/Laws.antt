-- What is to be proved of units.
use Rattle.std.specs.Prelude.{ℕ, map, ◌≡◌, ◌<◌, ⊤, List, [], ◌∷◌, ◌++◌, false, Option, Some, None, if◌then◌else◌}
use Rattle.pg_text.specs.declared.translation_fault.TranslationFault.{TranslationFault}
use Rattle.pg_text.specs.declared.place.PageFault.{PageFault}
use Rattle.pg_text.specs.Faults.{number_of}
use Rattle.pg_text.specs.Names.{AreInOrder, has_name}
use Rattle.page_directives.specs.Faults.{in_order}
use Rattle.unit_source.specs.Files.{Files}
use Rattle.unit_source.specs.Laws.{Agree}
use Rattle.unit_source.specs.Root.{rooted}
use Rattle.unit_words.specs.State.{Event, faulty, needs}
use Rattle.unit_words.specs.Unit.{is_xml, unit_of, first_fault, names_met, page_met}

-- no fault is met
abbrev pub HasNoFault : List Event → Type 0
HasNoFault [] = ⊤
HasNoFault (faulty fault ∷ events) = ⊥
HasNoFault (needs name ∷ events) = HasNoFault events

-- this fault is met, and none before it
pub record IsLeast (events : List Event) (fault : PageFault) : Type 0 where
  pub before : List Event
  pub behind : List Event
  pub stands : events ≡ before ++ faulty fault ∷ behind
  pub least : HasNoFault before

abbrev pub IsReported : List Event → Option PageFault → Type 0
IsReported events None = HasNoFault events
IsReported events (Some fault) = IsLeast events fault

-- the fault of a unit is the first that reading meets
abbrev pub HasFirstFault : Type 0
HasFirstFault = (events : List Event) → IsReported events (first_fault events)

-- names in byte order, each once, that are all of these and no others
pub record AreAllOf (all names : List (List ℕ)) : Type 0 where
  pub order : AreInOrder names
  pub same : (name : List ℕ) → has_name name names ≡ has_name name all

-- the names that the reading of a page meets; a page in XML syntax isn't read, and its own name alone is met
abbrev pub names_of_reading : Files → (path text : List ℕ) → List (List ℕ)
names_of_reading files path text = if is_xml path then path ∷ [] else names_met (page_met files (rooted files false path text)).events

-- a unit depends on all names that the reading of its page meets, and on no others
abbrev pub HasNamesOfReading : Type 0
HasNamesOfReading = (files : Files) (path text : List ℕ) → AreAllOf (names_of_reading files path text) (unit_of files path text).deps

-- sites that hold the same at the dependencies of a page have the same unit of it
abbrev pub HasSameUnit : Type 0
HasSameUnit = (files others : Files) (path text : List ℕ) → Agree files others (unit_of files path text).deps → unit_of files path text ≡ unit_of others path text

-- each number is above those before it
abbrev pub AreAbove : ℕ → List ℕ → Type 0
AreAbove number [] = ⊤
AreAbove number (next ∷ numbers) = (number < next) × AreAbove next numbers

-- the numbers of faults at one place rise
abbrev pub HasRisingNumbers : Type 0
HasRisingNumbers = (found : List TranslationFault) → AreAbove 0 (map number_of (in_order found))
