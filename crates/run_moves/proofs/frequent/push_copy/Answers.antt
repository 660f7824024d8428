use Rattle.run_moves.proofs.frequent.push_copy.Goals as goal

pub returns : goal.returns
returns c = (c.copied-made.result, c.copied-made.ensures, c.push_made.ensures)
