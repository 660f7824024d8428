use Rattle.std.proofs.lemmas.List.Elements.{All-same}
use Rattle.turn_table.specs.Passes.{IsPassOf}
use Rattle.turn_table.proofs.Making.{newcomers_from}
use Rattle.turn_table.proofs.turns.Turns.start.Goals as goal

pub returns-clause-from : goal.returns-clause-from
returns-clause-from g c = All-same (IsPassOf _) _ _ c.make_all.ensures (newcomers_from _ _)
