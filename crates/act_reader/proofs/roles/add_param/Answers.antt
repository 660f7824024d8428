use Rattle.std.proofs.Common.{refl}
use Rattle.act_reader.proofs.RoleLemmas.{nothing_then}
use Rattle.act_reader.proofs.roles.add_param.Goals as goal

pub returns : goal.returns
returns c =
    nothing_then _ c.args.children.now c.add_act.new.self c.add_param.new.self _ _ _ _ c.nothing.ensures c.in_ok-add_act.ensures (λ rest. refl) c.add_param.ensures
