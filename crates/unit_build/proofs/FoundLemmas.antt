-- What was found, and then what is met.
use Rattle.std.proofs.Common.{◌≡◌, ℕ, ◌+◌, ◌<◌, List, [], ◌∷◌, ◌++◌, map, length, take, get_or, refl, sym, ap, subst, ◌∙◌, Option, Some, None, Result}
use Rattle.std.proofs.lemmas.List.{take_more}
use Rattle.pg_text.specs.Names.{with_name}
use Rattle.pg_value.specs.declared.value.Value.{Value}
use Rattle.page_directives.specs.Meet.{Before}
use Rattle.unit_source.specs.Placed.{root_view}
use Rattle.unit_source.specs.Root.{Root}
use Rattle.unit_words.specs.declared.counts.Counts.{Counts}
use Rattle.unit_words.specs.State.{Event, faulty, needs, events_at, needed, State, Reading, met, ◌>>◌}
use Rattle.unit_words.specs.Unit.{first_fault, names_met, names_with}
use Rattle.std.specs.List.{slice_get}
use Rattle.std.specs.Option.{option_map}
use Rattle.pg_text.specs.declared.place.Place.{Place}
use Rattle.pg_text.specs.declared.place.PageFault.{PageFault}
use Rattle.pg_text.specs.declared.translation_fault.TranslationFault.{TranslationFault}
use Rattle.unit_judges.specs.Made.{class_made}
use Rattle.unit_build.specs.declared.found.Found.{Found}
use Rattle.unit_build.specs.ReadFound.{fault_behind, state_in, IsMet, IsRead}

-- the first fault at a place is the one with the least number
pub first_at : (place : Place) (faults : List TranslationFault) → first_fault (events_at place faults) ≡ option_map (λ fault. record { fault = fault; place = place }) (slice_get faults 0)
first_at place [] = refl
first_at place (fault ∷ faults) = refl

-- faults name no files
pub names_at : (place : Place) (faults : List TranslationFault) → names_met (events_at place faults) ≡ []
names_at place [] = refl
names_at place (fault ∷ faults) = names_at place faults

first_both : (a b : List Event) → first_fault (a ++ b) ≡ fault_behind (first_fault a) b
first_both [] b = refl
first_both (faulty fault ∷ a) b = refl
first_both (needs name ∷ a) b = first_both a b

pub fault_both : (o : Option PageFault) (a b : List Event) → fault_behind o (a ++ b) ≡ fault_behind (fault_behind o a) b
fault_both None a b = first_both a b
fault_both (Some fault) a b = refl

pub fault_none : (o : Option PageFault) → o ≡ fault_behind o []
fault_none None = refl
fault_none (Some fault) = refl

pub names_met_both : (a b : List Event) → names_met (a ++ b) ≡ names_met a ++ names_met b
names_met_both [] b = refl
names_met_both (faulty fault ∷ a) b = names_met_both a b
names_met_both (needs name ∷ a) b = ap (λ x. name ∷ x) (names_met_both a b)

pub names_with_both : (kept a b : List (List ℕ)) → names_with kept (a ++ b) ≡ names_with (names_with kept a) b
names_with_both kept [] b = refl
names_with_both kept (name ∷ a) b = names_with_both (with_name name kept) a b

-- events, and then others
pub met_then : {old mid new : Found} {a b : List Event} → IsMet old mid a → IsMet mid new b → IsMet old new (a ++ b)
met_then {old} {mid} {new} {a} {b} first second = record {
  fault = second.fault ∙ ap (λ o. fault_behind o b) first.fault ∙ sym (fault_both old.fault a b);
  names = second.names ∙ ap (λ n. names_with n (names_met b)) first.names ∙ sym (names_with_both old.names (names_met a) (names_met b))
      ∙ ap (names_with old.names) (sym (names_met_both a b));
  site = second.site ∙ first.site;
  tags = second.tags ∙ first.tags;
  beans = second.beans ∙ first.beans;
  counts = second.counts ∙ first.counts;
}

pub met_none : (old : Found) → IsMet old old []
met_none old = record { fault = fault_none old.fault; names = refl; site = refl; tags = refl; beans = refl; counts = refl }

needed_both : (a b : List (List ℕ)) → needed (a ++ b) ≡ needed a ++ needed b
needed_both [] b = refl
needed_both (name ∷ a) b = ap (λ x. needs name ∷ x) (needed_both a b)

-- one more name is needed
pub needed_more : {old mid new : Found} (names : List (List ℕ)) (i : ℕ) (name : List ℕ) → i < length names → name ≡ get_or names i name
    → IsMet old mid (needed (take i names)) → IsMet mid new (needed (name ∷ [])) → IsMet old new (needed (take (i + 1) names))
needed_more {old} {mid} {new} names i name within is first second =
    subst (IsMet old new) (sym (needed_both (take i names) (name ∷ [])) ∙ ap needed (ap (λ x. take i names ++ x ∷ []) is ∙ sym (take_more names i name within))) (met_then first second)

-- what is met leaves the state
pub read_met : {old new : Found} {events : List Event} (before : Before) → IsMet old new events → IsRead old new (state_in before new) (met events (state_in before old))
read_met {old} {new} {events} before is = record {
  fault = is.fault;
  names = is.names;
  site = is.site;
  state = ap (λ tags. state before (map (λ tag. root_view tag.value) tags.items) new.beans.items new.counts) is.tags
      ∙ ap (λ beans. state before (map (λ tag. root_view tag.value) old.tags.items) beans.items new.counts) is.beans
      ∙ ap (λ counts. state before (map (λ tag. root_view tag.value) old.tags.items) old.beans.items counts) is.counts;
}
  where
    state : Before → List Root → List (List ℕ × Result Value TranslationFault) → Counts → State
    state before tags beans counts = record { before = before; tags = tags; beans = map class_made beans; counts = counts }

-- nothing is met
pub read_none : (before : Before) (old : Found) → IsRead old old (state_in before old) (met [] (state_in before old))
read_none before old = read_met before (met_none old)

-- a reading, and then another
pub read_then : {old mid new : Found} {s1 s2 : State} {one : Reading} (more : State → Reading) → IsRead old mid s1 one → IsRead mid new s2 (more s1) → IsRead old new s2 (one >> more)
read_then {old} {mid} {new} {s1} {s2} {one} more first second =
    both (subst (λ s. IsRead mid new s2 (more s)) first.state second)
  where
    both : IsRead mid new s2 (more one.state) → IsRead old new s2 (one >> more)
    both later = record {
      fault = later.fault ∙ ap (λ o. fault_behind o (more one.state).events) first.fault ∙ sym (fault_both old.fault one.events (more one.state).events);
      names = later.names ∙ ap (λ n. names_with n (names_met (more one.state).events)) first.names
          ∙ sym (names_with_both old.names (names_met one.events) (names_met (more one.state).events)) ∙ ap (names_with old.names) (sym (names_met_both one.events (more one.state).events));
      site = later.site ∙ first.site;
      state = later.state;
    }
