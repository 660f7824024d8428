use Rattle.std.proofs.Common.{lit<}
use Rattle.run_values.proofs.CookieLemmas.{pieces_cut, pieces_whole}
use Rattle.run_values.proofs.cookies.cut.Goals as goal

pub returns-in-Some-clause-pieces : goal.returns-in-Some-clause-pieces
returns-in-Some-clause-pieces c =
    let sides = c.in-Some.ensures.byte (lit< tt) (λ w o found. found) in
    pieces_cut c.args.text.now c.in-Some.before.now c.in-Some.behind.now sides.2 sides.0 sides.1

pub returns-in-None-clause-pieces : goal.returns-in-None-clause-pieces
returns-in-None-clause-pieces c = pieces_whole c.args.text.now (c.in-None.ensures.byte (lit< tt) (λ w o found. found))
