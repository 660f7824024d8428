use Rattle.std.proofs.Common.{ap, sym, ◌∙◌, subst, arith}
use Rattle.run_values.proofs.RoundLemmas.{item_is_next}
use Rattle.run_values.proofs.rounds.Rounds.item.Goals as goal
use Rattle.run_values.specs.Rounds.{items_of}
use Rattle.page_meaning.specs.Rounds.{item_at}
use Rattle.pg_text.specs.Failure.{AnswersAs}
use Rattle.pg_value.specs.Value.{datum_of}

pub returns-in-Entries : goal.returns-in-Entries
returns-in-Entries c r rest e =
    let next = item_is_next (item_at (items_of c.self.inside.items)) c.self.inside.step c.self.inside.count c.self.inside.at c.self.inside.stop r rest (omega (arith, c.if-self.false)) (c.self.view_is ∙ e) in
    subst (λ x. AnswersAs datum_of x c.entry_at.result) (sym (ap (λ items. item_at (items_of items) c.self.inside.at) c.in-Entries.is) ∙ next) c.entry_at.ensures
