-- What is left to meet in a page or a tag file leads to the whole.
use Rattle.std.proofs.Common.{◌≡◌, ◌<◌, ◌≤◌, ◌+◌, ℕ, zero, suc, Bool, true, false, cond, List, [], ◌∷◌, refl, ap, sym, subst, ◌∙◌, length, drop, get_or, map, arith}
use Rattle.page_directives.specs.Meet.{Before}
use Rattle.unit_source.specs.Files.{Files}
use Rattle.unit_source.specs.Root.{Root}
use Rattle.unit_words.specs.Directives.{goes_in}
use Rattle.unit_words.specs.State.{State, Reading, met, ◌>>◌}
use Rattle.unit_words.specs.Unit.{names_met, names_with}
use Rattle.unit_build.specs.declared.found.Found.{Found}
use Rattle.unit_build.specs.declared.steps.Step.{Step as StepMade}
use Rattle.unit_build.specs.MadeSteps.{step_made}
use Rattle.unit_build.specs.ReadFound.{fault_behind, state_in, IsRead}
use Rattle.unit_build.specs.ReadSteps.{Step, leaf_step, break_step, start_step, include_step, end_step, left_out, left_out_still, step_met, steps_met}
use Rattle.unit_build.specs.ReadWalk.{Leads}
use Rattle.unit_judges.proofs.PlacedLemmas.{drop_node}
use Rattle.unit_build.proofs.FoundLemmas.{fault_both, fault_none, names_met_both, names_with_both}

-- the files in which no step is taken were begun before
pub out_still : (step : Step) (count i : ℕ) → count ≤ i → left_out_still step count ≤ i + 1
out_still (leaf_step here kind place) count i le = omega (arith, le)
out_still (break_step fault) count i le = omega (arith, le)
out_still (start_step here kind opened body) count i le = omega (arith, le)
out_still (include_step d entry) count i le = omega (arith, le)
out_still end_step count i le = omega (arith, le)

pub out_then : (step : Step) (s : State) (i : ℕ) → left_out step s ≤ i + 1
out_then (leaf_step here kind place) s i = omega arith
out_then (break_step fault) s i = omega arith
out_then (start_step here kind opened body) s i = omega arith
out_then (include_step d entry) s i = by_entry (goes_in entry s)
  where
    by_entry : (b : Bool) → cond b 0 1 ≤ i + 1
    by_entry true = omega arith
    by_entry false = omega arith
out_then end_step s i = omega arith

pub leads_all : (found : Found) (all : Reading) → Leads found found all all
leads_all found all = record { fault = refl; names = refl; site = refl; state = refl }

-- one part more is met
pub leads_on : {old now new : Found} {after : State} {one rest all : Reading} (more : State → Reading) → rest ≡ (one >> more) → Leads old now rest all → IsRead now new after one → Leads old new (more after) all
leads_on {old} {now} {new} {after} {one} {rest} {all} more split leads is =
    subst (λ s. Leads old new (more s) all) (sym is.state) (record {
      fault = ap (λ o. fault_behind o (more one.state).events) is.fault ∙ sym (fault_both now.fault one.events (more one.state).events) ∙ ap (λ (r : Reading). fault_behind now.fault r.events) (sym split) ∙ leads.fault;
      names = ap (λ names. names_with names (names_met (more one.state).events)) is.names ∙ sym (names_with_both now.names (names_met one.events) (names_met (more one.state).events))
          ∙ ap (names_with now.names) (sym (names_met_both one.events (more one.state).events)) ∙ ap (λ (r : Reading). names_with now.names (names_met r.events)) (sym split) ∙ leads.names;
      site = is.site ∙ leads.site;
      state = ap (λ (r : Reading). r.state) (sym split) ∙ leads.state;
    })

-- nothing is left to meet
pub leads_end : {old now : Found} {all : Reading} (before : Before) → Leads old now (met [] (state_in before now)) all → IsRead old now (state_in before now) all
leads_end {old} {now} before leads = record {
  fault = fault_none now.fault ∙ leads.fault;
  names = leads.names;
  site = leads.site;
  state = leads.state;
}

-- a step isn't taken
out_step : (files : Files) (root : Root) (enter : Root → State → Reading) (count : ℕ) (step : Step) (steps : List Step) (s : State) → zero < count
    → steps_met files root enter count (step ∷ steps) s ≡ steps_met files root enter (left_out_still step count) steps s
out_step files root enter zero step steps s lt = absurd (omega (arith, lt))
out_step files root enter (suc count) step steps s lt = refl

pub leads_left : {old now : Found} {all : Reading} (files : Files) (root : Root) (enter : Root → State → Reading) (steps : List StepMade) (i : ℕ) (step : StepMade) (count next : ℕ) (s : State)
    → i < length steps → step ≡ get_or steps i step → zero < count → next ≡ left_out_still (step_made step) count
    → Leads old now (steps_met files root enter count (map step_made (drop i steps)) s) all → Leads old now (steps_met files root enter next (map step_made (drop (i + 1) steps)) s) all
leads_left {old} {now} {all} files root enter steps i step count next s lt is some is_next leads =
    subst (λ r. Leads old now r all)
    (ap (λ xs. steps_met files root enter count (map step_made xs) s) (drop_node steps i step lt is)
    ∙ out_step files root enter count (step_made step) (map step_made (drop (i + 1) steps)) s some
    ∙ ap (λ n. steps_met files root enter n (map step_made (drop (i + 1) steps)) s) (sym is_next)) leads

-- a step is taken
pub leads_taken : {old now new : Found} {after : State} {all : Reading} (files : Files) (root : Root) (enter : Root → State → Reading) (steps : List StepMade) (i : ℕ) (step : StepMade) (count next : ℕ) (s : State)
    → i < length steps → step ≡ get_or steps i step → count ≡ zero → next ≡ left_out (step_made step) s
    → Leads old now (steps_met files root enter count (map step_made (drop i steps)) s) all → IsRead now new after (step_met files root enter (step_made step) s)
    → Leads old new (steps_met files root enter next (map step_made (drop (i + 1) steps)) after) all
leads_taken {old} {now} {new} {after} {all} files root enter steps i step count next s lt is none is_next leads read =
    subst (λ n. Leads old new (steps_met files root enter n (map step_made (drop (i + 1) steps)) after) all) (sym is_next) (leads_on more split leads read)
  where
    more : State → Reading
    more s1 = steps_met files root enter (left_out (step_made step) s) (map step_made (drop (i + 1) steps)) s1

    split : steps_met files root enter count (map step_made (drop i steps)) s ≡ (step_met files root enter (step_made step) s >> more)
    split =
        ap (λ n. steps_met files root enter n (map step_made (drop i steps)) s) none
        ∙ ap (λ xs. steps_met files root enter zero (map step_made xs) s) (drop_node steps i step lt is)
