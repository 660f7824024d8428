use Rattle.std.proofs.Common.{map, sym, ap, subst, ◌∙◌}
use Rattle.site_words.specs.Fits.{at_rest}
use Rattle.site_words.specs.Invariants.{AllRest}
use Rattle.site_words.specs.State.{State}
use Rattle.site_state.specs.Parts.{under_in}
use Rattle.site_core.specs.Lived.{Lived}
use Rattle.site_core.proofs.Resting.{all_rest}
use Rattle.site_core.proofs.site.Site.at_rest.Goals as goal

pub returns-clause-rest : goal.returns-clause-rest
returns-clause-rest g c = λ is.
    subst (λ (v : Lived). AllRest v.opening v.history) c.self.view_is
    (all_rest g.P.Compiled.needs c.self.inside.opening c.self.inside.history.items
    (sym (c.at_rest.ensures ∙ ap (λ r. at_rest (map under_in r)) c.deref.ensures.value ∙ ap (λ (s : State). at_rest s.runs) c.self.invariant.state) ∙ is))
