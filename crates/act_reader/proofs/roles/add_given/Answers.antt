use Rattle.std.proofs.Common.{ap, true}
use Rattle.act_reader.proofs.RoleLemmas.{nothing_then}
use Rattle.act_reader.proofs.roles.add_given.Goals as goal

pub returns : goal.returns
returns c =
    nothing_then _ c.args.children.now c.add_act.new.self c.add_given.new.self _ _ _ _ c.nothing.ensures c.in_ok-add_act.ensures (λ rest. ap (λ given. record rest { given = given }) (c.in_ok-given.ensures rest.given)) c.add_given.ensures
