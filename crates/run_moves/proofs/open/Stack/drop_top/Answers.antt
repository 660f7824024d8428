use Rattle.std.proofs.Common.{◌≡◌, length, ap, ◌∙◌}
use Rattle.std.specs.Prelude.{map, reverse}
use Rattle.run_moves.proofs.Stacks.{dropped_of}
use Rattle.run_moves.proofs.open.Stack.drop_top.Goals as goal
use Rattle.pg_value.specs.Value.{datum_of}

pub returns : goal.returns
returns c =
    let counted : c.len.result ≡ length c.self.inside.values.items = c.len.ensures ∙ c.self.inside.values.ok.0 in
    ap (λ values. reverse (map datum_of values)) c.truncate.ensures.items
    ∙ dropped_of datum_of c.self.inside.values.items c.args.self.now c.len.result c.args.count c.self.view_is counted c.requires
