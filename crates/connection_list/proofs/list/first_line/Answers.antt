use Rattle.std.proofs.Common.{refl, rules}
use Rattle.std.proofs.lemmas.List.{take_rest}
use Rattle.connection_list.proofs.Lines.{line_at_first, line_none}
use Rattle.connection_list.proofs.list.first_line.Goals as goal

pub returns-in_err-at-clause-split : goal.returns-in_err-at-clause-split
returns-in_err-at-clause-split c = rw (line_none c.args.input.now (search rules)) (search rules)

pub returns-clause-split : goal.returns-clause-split
returns-clause-split c = rw (line_at_first c.args.input.now c.in_ok-at.at (search rules) (search rules) (search rules), take_rest) refl
