use Rattle.std.proofs.Common.{ap, ◌∙◌}
use Rattle.std.specs.Prelude.{map, reverse}
use Rattle.out_buffer.specs.Writer.{last_of}
use Rattle.pg_value.specs.Value.{datum_of}
use Rattle.run_moves.proofs.Stacks.{cut_seen}
use Rattle.run_moves.proofs.open.Stack.cut.Goals as goal

pub returns : goal.returns
returns c =
    ap (λ values. reverse (map datum_of values)) c.truncate.ensures.items ∙ cut_seen datum_of c.args.left c.self.inside.values.items ∙ ap (last_of c.args.left) c.self.view_is
