use Rattle.std.proofs.Common.{◌≡◌, length, ◌∙◌}
use Rattle.run_moves.proofs.Stacks.{top_of}
use Rattle.run_moves.proofs.open.Stack.top.Goals as goal
use Rattle.pg_value.specs.Value.{datum_of}

pub returns : goal.returns
returns c =
    let counted : c.len.result ≡ length c.self.inside.values.items = c.len.ensures ∙ c.self.inside.values.ok.0 in
    top_of datum_of c.self.inside.values.items c.deref.result.now c.args.self.now c.len.result c.args.count c.self.view_is c.deref.ensures.value counted c.requires
