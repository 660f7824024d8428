-- All is in order where a page begins to run in a session in which nothing was set, or in none.
use Rattle.std.proofs.Common.{◌≡◌, ◌≤◌, ◌∙◌, Bool, true, false, [], Option, Some, None, refl, sym, ap, subst, arith}
use Rattle.std.specs.Prelude.{is_some, if◌then◌else◌}
use Rattle.tree_site.specs.Asked.{asking_by}
use Rattle.page_machine.specs.Run.{IsInOrder}
use Rattle.page_meaning.specs.declared.limits.TheConstants.{VISIT_LIMIT}
use Rattle.run_stage.specs.declared.limits.TheConstants.{MAX_CHARGE}
use Rattle.run_stage.specs.Keeping.{session_weight}
use Rattle.run_world.specs.declared.around.Around.{Around}
use Rattle.scopes.specs.Limits.{max_session_weight}
use Rattle.scopes.specs.Scopes.{Entries, ScopeState, starting}
use Rattle.site_words.specs.Running.{Asking}

-- the attributes of a session in which nothing was set
abbrev first_attributes : Bool → Option Entries
first_attributes has = if has then Some [] else None

first_some : (has : Bool) → is_some (first_attributes has) ≡ has
first_some true = refl
first_some false = refl

first_light : (has : Bool) → session_weight (first_attributes has) ≤ max_session_weight
first_light true = omega arith
first_light false = omega arith

pub begins_in_order : (scopes : ScopeState) (around : Around) (asking : Asking) (has : Bool) → scopes ≡ starting (first_attributes has) → has ≡ is_some around.id → asking ≡ asking_by [] [] has
    → around.visits ≤ VISIT_LIMIT → around.charge ≤ MAX_CHARGE → IsInOrder scopes around asking
begins_in_order scopes around asking has starts is_there asks visits charge = record {
  session = ap (λ s. is_some s.session) starts ∙ first_some has ∙ is_there;
  asked = ap (λ (a : Asking). a.has_session) asks ∙ is_there;
  weight = subst (λ s. session_weight s.session ≤ max_session_weight) (sym starts) (first_light has);
  visits = visits;
  charge = charge;
}
