use Rattle.std.proofs.Common.{◌∙◌, ap}
use Rattle.site_words.specs.declared.words.Opening.{Opening}
use Rattle.site_shared.proofs.Passes.{idle_at_start}
use Rattle.site_shared.proofs.shared.start.Goals as goal

pub returns-clause-idle : goal.returns-clause-idle
returns-clause-idle g c =
    idle_at_start c.args.site.opening c.in_ok-turns.turns c.args.site.history c.in_ok-turns.passes.items (c.in_ok-turns.ensures.turns.0 ∙ ap (λ (x : Opening). x.passes) c.opening.ensures) c.requires (rw c.in_ok-site.ensures.ok at c.in_ok-turns.ensures.passes)
