use Rattle.std.proofs.Common.{ap, rules}
use Rattle.page_acts.proofs.Rows.{rows}
use Rattle.act_reader.proofs.RoleLemmas.{nothing_then}
use Rattle.act_reader.proofs.roles.add_when.Goals as goal

pub returns : goal.returns
returns c =
    nothing_then _ c.args.children.now c.add_act.new.self c.add_branch.new.self _ _ _ _ c.nothing.ensures c.in_ok-add_act.ensures (λ rest. ap (λ branches. record rest { own = record { nodes = rest.own.nodes; params = rest.own.params; branches = branches } }) (search (rules, rows))) c.add_branch.ensures
