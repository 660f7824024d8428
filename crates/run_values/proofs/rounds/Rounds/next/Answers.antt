use Rattle.std.proofs.Common.{◌≡◌, List, ◌∷◌, subst, arith, nat_le, ◌-◌}
use Rattle.run_values.proofs.RoundLemmas.{next_is}
use Rattle.run_values.specs.Rounds.{items_of}
use Rattle.page_meaning.specs.Rounds.{Round, item_at}
use Rattle.run_values.proofs.rounds.Rounds.next.Goals as goal

pub returns : goal.returns
returns c =
    subst (λ (rounds : List Round). (r : Round) × (rest : List Round) × (rounds ≡ r ∷ rest) × (r.index ≡ c.self.inside.at) × (r.count ≡ c.self.inside.count)
    × (r.is_last ≡ nat_le (c.self.inside.stop - c.self.inside.at) c.self.inside.step)) c.self.view_is
    (next_is (item_at (items_of c.self.inside.items)) c.self.inside.step c.self.inside.count c.self.inside.at c.self.inside.stop c.self.invariant.0 (omega (arith, c.if-self.false)))
