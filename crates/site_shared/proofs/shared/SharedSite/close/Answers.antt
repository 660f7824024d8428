use Rattle.std.proofs.Common.{◌∙◌, ap, subst, sym}
use Rattle.std.specs.Prelude.{All}
use Rattle.site_words.specs.declared.words.Entry.{Entry}
use Rattle.site_words.specs.declared.words.Opening.{Opening}
use Rattle.site_words.specs.Calls.{Stays}
use Rattle.site_words.specs.Law.{Legal}
use Rattle.turn_table.specs.Passes.{AreAll, Known, Origin}
use Rattle.site_shared.proofs.Passes.{rest_at_end}
use Rattle.site_shared.proofs.shared.SharedSite.close.Goals as goal

pub returns-clause-passes : goal.returns-clause-passes
returns-clause-passes g c = rw c.into_inner.ensures (
    subst (λ (turns : Origin Opening). All (λ (pass : Known Opening Entry). Stays g.P.Compiled.needs turns.opening pass.number pass.seen c.close.result.site.value.history) c.args.passes.items) c.self.view_is c.close.ensures.passes)

pub returns-clause-rest : goal.returns-clause-rest
returns-clause-rest g c = rw c.into_inner.ensures (λ none. rest_at_end c.close.result.site.value.opening c.self.inside.turns c.args.passes.items c.close.result.site.value.history (Legal g.P.Compiled.needs c.self.inside.turns.opening)
    (c.self.invariant.0 ∙ ap (λ (x : Opening). x.passes) (sym c.close.ensures.opening))
    (subst (λ (turns : Origin Opening). AreAll turns c.args.passes.items) (sym c.self.view_is) c.requires) c.close.ensures.passes none)
