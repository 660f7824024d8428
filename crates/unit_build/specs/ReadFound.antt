-- What reading has found, as the program keeps it.
use Rattle.std.specs.Prelude.{ℕ, ◌≡◌, List, [], map, Option, Some, None}
use Rattle.pg_text.specs.declared.place.PageFault.{PageFault}
use Rattle.pg_text.specs.declared.translation_fault.TranslationFault.{TranslationFault}
use Rattle.page_directives.specs.Faults.{in_order}
use Rattle.page_directives.specs.Meet.{Before, nothing_before}
use Rattle.source_tree.specs.declared.file.File.{File}
use Rattle.unit_source.specs.Placed.{root_view}
use Rattle.unit_source.specs.Root.{Root}
use Rattle.unit_words.specs.Beans.{Step}
use Rattle.unit_words.specs.Calls.{Called}
use Rattle.unit_words.specs.State.{Event, State, Reading}
use Rattle.unit_words.specs.Unit.{begun, first_fault, names_met, names_with}
use Rattle.unit_judges.specs.Made.{class_made}
use Rattle.unit_build.specs.declared.found.Found.{Found}

-- the state of reading, with what stood before in the page or tag file
abbrev pub state_in : Before → Found → State
state_in before found = record {
  before = before;
  tags = map (λ tag. root_view tag.value) found.tags.items;
  beans = map class_made found.beans.items;
  counts = found.counts;
}

-- the fault that was met before, or else the first here
abbrev pub fault_behind : Option PageFault → List Event → Option PageFault
fault_behind (Some fault) events = Some fault
fault_behind None events = first_fault events

-- nothing was found in a page of so many bytes
pub record IsNothing (tree : List File) (bytes : ℕ) (found : Found) : Type 0 where
  pub fault : found.fault ≡ None
  pub names : found.names ≡ []
  pub site : found.site ≡ tree
  pub state : state_in nothing_before found ≡ begun bytes

-- what was found, and then these events, which change nothing else
pub record IsMet (old new : Found) (events : List Event) : Type 0 where
  pub fault : new.fault ≡ fault_behind old.fault events
  pub names : new.names ≡ names_with old.names (names_met events)
  pub site : new.site ≡ old.site
  pub tags : new.tags ≡ old.tags
  pub beans : new.beans ≡ old.beans
  pub counts : new.counts ≡ old.counts

-- what was found, and then what reading met, which left this state
pub record IsRead (old new : Found) (after : State) (reading : Reading) : Type 0 where
  pub fault : new.fault ≡ fault_behind old.fault reading.events
  pub names : new.names ≡ names_with old.names (names_met reading.events)
  pub site : new.site ≡ old.site
  pub state : after ≡ reading.state

-- what was found, and then what the file of an element came to, but for its faults: these, and this tag file, are answered
pub record IsCalled (old new : Found) (before : Before) (answered : List TranslationFault) (tag : Option Root) (called : Called) : Type 0 where
  pub faults : answered ≡ in_order called.faults
  pub entered : tag ≡ called.entered
  pub fault : new.fault ≡ old.fault
  pub names : new.names ≡ names_with old.names called.names
  pub site : new.site ≡ old.site
  pub state : state_in before new ≡ called.state

-- what was found, and then what a bean came to, but for its name and its faults, which are these
pub record IsBeanRead (old new : Found) (before : Before) (answered : List TranslationFault) (step : Step) : Type 0 where
  pub faults : answered ≡ in_order step.faults
  pub fault : new.fault ≡ old.fault
  pub names : new.names ≡ old.names
  pub site : new.site ≡ old.site
  pub state : state_in before new ≡ step.state

-- the same with its name
pub record IsBeanMet (old new : Found) (before : Before) (answered : List TranslationFault) (step : Step) : Type 0 where
  pub faults : answered ≡ in_order step.faults
  pub fault : new.fault ≡ old.fault
  pub names : new.names ≡ names_with old.names step.names
  pub site : new.site ≡ old.site
  pub state : state_in before new ≡ step.state
