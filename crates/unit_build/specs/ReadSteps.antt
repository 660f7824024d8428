-- A page or a tag file as the steps that the program takes, in reading order.
use Rattle.std.specs.Prelude.{ℕ, zero, suc, ◌+◌, ◌-◌, List, [], ◌∷◌, ◌++◌, if◌then◌else◌}
use Rattle.pg_text.specs.declared.place.Place.{Place}
use Rattle.pg_text.specs.declared.place.PageFault.{PageFault}
use Rattle.page_pieces.specs.declared.piece.Leaf.{Leaf}
use Rattle.page_reader.specs.Trees.{Tree, Opened}
use Rattle.page_directives.specs.Directive.{Directive}
use Rattle.unit_source.specs.declared.entry.Entry.{Entry}
use Rattle.unit_source.specs.Files.{Files}
use Rattle.unit_source.specs.InPlace.{InPlace, done, leaf, element, broken, included, flat}
use Rattle.unit_source.specs.Root.{Root}
use Rattle.unit_words.specs.Directives.{include_met, goes_in}
use Rattle.unit_words.specs.Elements.{Here, within}
use Rattle.unit_words.specs.Kinds.{Kind, kind_of}
use Rattle.unit_words.specs.State.{State, Reading, met, ◌>>◌, faulty}
use Rattle.unit_words.specs.Walk.{behind, behind_all, leaf_met, nested, file_met, start_met, tag_met}

-- a leaf; a break; the beginning of an element with its plain body; an include directive, behind which the steps of its file stand up to its end
pub data Step : Type 0 where
  leaf_step : Here → Leaf → Place → Step
  break_step : PageFault → Step
  start_step : Here → Kind → Opened → Tree → Step
  include_step : Directive → Entry → Step
  end_step : Step

-- the steps of nodes in place
abbrev pub steps_of : List Directive → Here → InPlace → List Step
steps_of directives here done = []
steps_of directives here (leaf kind place next) = leaf_step here kind place ∷ steps_of directives here next
steps_of directives here (broken fault next) = break_step fault ∷ steps_of directives here next
steps_of directives here (included d entry body next) =
    include_step d entry ∷ (steps_of directives here body ++ end_step ∷ steps_of directives (behind_all directives body here) next)
steps_of directives here (element opened body next) =
    let kind = kind_of directives opened.tag in
    start_step here kind opened (flat body) ∷ (steps_of directives (within kind opened.tag here) body ++ steps_of directives (behind kind here) next)

-- what is met at a step; at its first call reading goes into a tag file
abbrev pub step_met : Files → Root → (Root → State → Reading) → Step → State → Reading
step_met files root enter (leaf_step here kind place) s = leaf_met root here kind place s
step_met files root enter (break_step fault) s = met (faulty fault ∷ []) s
step_met files root enter (start_step here kind opened body) s =
    let file = file_met files kind opened.tag (nested here s) in start_met root kind here opened body file >> (λ s1. tag_met enter file.entered s1)
step_met files root enter (include_step d entry) s = include_met root d entry s
step_met files root enter end_step s = met [] s

-- in how many files behind a step no step is taken
abbrev pub left_out : Step → State → ℕ
left_out (include_step d entry) s = if goes_in entry s then 0 else 1
left_out step s = 0

-- the same behind a step that itself isn't taken
abbrev pub left_out_still : Step → ℕ → ℕ
left_out_still (include_step d entry) count = count + 1
left_out_still end_step count = count - 1
left_out_still step count = count

-- what is met at steps, where none is taken in so many files
abbrev pub steps_met : Files → Root → (Root → State → Reading) → ℕ → List Step → State → Reading
steps_met files root enter count [] s = met [] s
steps_met files root enter zero (step ∷ steps) s = step_met files root enter step s >> (λ s1. steps_met files root enter (left_out step s) steps s1)
steps_met files root enter (suc count) (step ∷ steps) s = steps_met files root enter (left_out_still step (suc count)) steps s
