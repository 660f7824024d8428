use Rattle.std.proofs.Common.{◌∙◌, ap, arith}
use Rattle.run_values.proofs.RoundLemmas.{behind_is}
use Rattle.run_values.specs.Rounds.{behind_round, items_of}
use Rattle.page_meaning.specs.Rounds.{item_at}
use Rattle.run_values.proofs.rounds.Rounds.advance.Goals as goal

pub returns-then-self : goal.returns-then-self
returns-then-self c =
    behind_is (item_at (items_of c.self.inside.items)) c.self.inside.step c.self.inside.count c.self.inside.at c.self.inside.stop c.saturating_add-self-inside.result
    c.saturating_add-self-inside-then-self.result c.self.invariant.0 c.if-self.true (omega (arith, c.self.ranges)) c.self.invariant.3 c.saturating_add-self-inside.ensures
    c.saturating_add-self-inside-then-self.ensures
    ∙ ap behind_round c.self.view_is
