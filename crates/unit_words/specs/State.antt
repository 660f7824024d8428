-- What reading meets, and what it keeps in mind.
use Rattle.std.specs.Prelude.{ℕ, List, [], ◌∷◌, ◌++◌, map, Option, Result}
use Rattle.std.specs.List.{find}
use Rattle.std.specs.Str.{bytes_eq}
use Rattle.pg_text.specs.declared.place.Place.{Place}
use Rattle.pg_value.specs.Datum.{Datum}
use Rattle.pg_text.specs.declared.place.PageFault.{PageFault}
use Rattle.page_directives.specs.Directive.{Directive}
use Rattle.page_directives.specs.Meet.{Before}
use Rattle.page_directives.specs.Faults.{in_order}
use Rattle.unit_source.specs.Root.{Root}
use Rattle.unit_words.specs.declared.counts.Counts.{Counts}
use Rattle.unit_words.specs.Counts.{counts_behind}
use Rattle.pg_text.specs.declared.translation_fault.TranslationFault.{TranslationFault}

-- a fault, or the name of a file on which the unit depends
pub data Event : Type 0 where
  faulty : PageFault → Event
  needs : List ℕ → Event

-- what stood before in this page or tag file; the tag files that were read, and the classes of beans, each with its bean or its fault; and what was counted
pub record State : Type 0 where
  pub before : Before
  pub tags : List Root
  pub beans : List (List ℕ × Result Datum TranslationFault)
  pub counts : Counts

pub record Reading : Type 0 where
  pub events : List Event
  pub state : State

abbrev pub met : List Event → State → Reading
met events state = record { events = events; state = state }

-- what is met, and then what is met behind it
abbrev pub followed : List Event → Reading → Reading
followed events reading = met (events ++ reading.events) reading.state

infixl 10 ◌>>◌
abbrev pub ◌>>◌ : Reading → (State → Reading) → Reading
one >> more = followed one.events (more one.state)

-- these faults at a place
abbrev pub events_at : Place → List TranslationFault → List Event
events_at place faults = map (λ fault. faulty (record { fault = fault; place = place })) faults

-- the faults at a place, in the order of their numbers
abbrev pub faults_at : Place → List TranslationFault → List Event
faults_at place faults = events_at place (in_order faults)

abbrev pub needed : List (List ℕ) → List Event
needed names = map needs names

-- a directive, or prefixes in text, were met
abbrev pub with_directive : Directive → State → State
with_directive d s = record s { before = record { directives = s.before.directives ++ d ∷ []; prefixes = s.before.prefixes } }

abbrev pub with_seen : List (List ℕ) → State → State
with_seen prefixes s = record s { before = record { directives = s.before.directives; prefixes = s.before.prefixes ++ prefixes } }

abbrev pub with_before : Before → State → State
with_before before s = record s { before = before }

abbrev pub with_counts : Counts → State → State
with_counts counts s = record s { counts = counts }

-- the state behind the counting of a file of so many bytes
abbrev pub behind_count : ℕ → State → State
behind_count bytes s = with_counts (counts_behind bytes s.counts) s

-- the tag file at a path, where it was read
abbrev pub tag_in : List ℕ → State → Option Root
tag_in path s = find (λ root. bytes_eq root.path path) s.tags
