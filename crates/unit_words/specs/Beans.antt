-- The beans of a unit: each class is a record of a JSON file.
use Rattle.std.specs.Prelude.{ℕ, List, [], ◌∷◌, ◌++◌, codes, Option, Some, None, Result, Ok, Err, length}
use Rattle.pg_value.specs.Datum.{Datum}
use Rattle.pg_value.specs.Json.{json_record}
use Rattle.pg_value.specs.declared.json.JsonFault.{JsonFault}
use Rattle.pg_value.specs.declared.json.JsonFault.TheVariants as json
use Rattle.page_directives.specs.Directive.{row_of}
use Rattle.unit_source.specs.Files.{Files, path_or_none}
use Rattle.pg_text.specs.Path.{resolved, segments}
use Rattle.unit_words.specs.declared.counts.Counted.{Counted}
use Rattle.unit_words.specs.declared.counts.Counted.TheVariants.{Within}
use Rattle.unit_words.specs.Counts.{counted, count_faults}
use Rattle.unit_words.specs.State.{State, behind_count}
use Rattle.pg_text.specs.declared.translation_fault.TranslationFault.{TranslationFault}
use Rattle.pg_text.specs.declared.translation_fault.TranslationFault.TheVariants as fault

-- the path of the file of a class
abbrev pub bean_path : List ℕ → Option (List ℕ)
bean_path class = path_or_none (resolved (segments None (codes "/WEB-INF/beans/" ++ (class ++ codes ".json"))))

abbrev pub json_fault : JsonFault → TranslationFault
json_fault json.NotJson = fault.BadAttribute
json_fault json.NotRecord = fault.BadAttribute
json_fault json.Decimal = fault.Decimal
json_fault json.TooDeep = fault.TooLarge
json_fault json.TooLarge = fault.TooLarge

abbrev pub bean_or_fault : Result Datum JsonFault → Result Datum TranslationFault
bean_or_fault (Ok bean) = Ok bean
bean_or_fault (Err why) = Err (json_fault why)

-- the bean that a text is, its record, or its fault
abbrev pub bean_of : List ℕ → Result Datum TranslationFault
bean_of text = bean_or_fault (json_record text)

abbrev pub bean_faults : Result Datum TranslationFault → List TranslationFault
bean_faults (Ok bean) = []
bean_faults (Err found) = found ∷ []

-- what a step of reading comes to: faults, names, and the state behind it
pub record Step : Type 0 where
  pub faults : List TranslationFault
  pub names : List (List ℕ)
  pub state : State

abbrev pub step : List TranslationFault → List (List ℕ) → State → Step
step faults names state = record { faults = faults; names = names; state = state }

-- a class whose file was read
abbrev pub with_bean : List ℕ → Result Datum TranslationFault → State → State
with_bean class bean s = record s { beans = s.beans ++ (class, bean) ∷ [] }

-- a file that is read for the first time is counted
abbrev pub bean_counted : (class path text : List ℕ) → Counted → State → Step
bean_counted class path text Within s = step (bean_faults (bean_of text)) (path ∷ []) (with_bean class (bean_of text) (behind_count (length text) s))
bean_counted class path text count s = step (count_faults count) (path ∷ []) (behind_count (length text) s)

-- a class that was read before has its fault again
abbrev pub bean_again : (class path text : List ℕ) → Option (Result Datum TranslationFault) → State → Step
bean_again class path text (Some bean) s = step (bean_faults bean) (path ∷ []) s
bean_again class path text None s = bean_counted class path text (counted (length text) s.counts) s

abbrev pub bean_text : (class path : List ℕ) → Option (List ℕ) → State → Step
bean_text class path None s = step (fault.NoFile ∷ []) (path ∷ []) s
bean_text class path (Some text) s = bean_again class path text (row_of class s.beans) s

abbrev pub bean_at : Files → List ℕ → Option (List ℕ) → State → Step
bean_at files class None s = step (fault.NoFile ∷ []) [] s
bean_at files class (Some path) s = bean_text class path (files path) s

-- a `jsp:useBean` of a class: its file is absent or refused, or has a fault, or passes a limit
abbrev pub bean_met : Files → Option (List ℕ) → State → Step
bean_met files None s = step [] [] s
bean_met files (Some class) s = bean_at files class (bean_path class) s
