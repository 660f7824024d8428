use Rattle.std.proofs.Common.{refl}
use Rattle.act_reader.specs.Contents.{with_held}
use Rattle.act_reader.specs.Parts.{parts_view}
use Rattle.act_reader.proofs.RoleLemmas.{nothing_before}
use Rattle.act_reader.proofs.roles.add_held.Goals as goal

pub returns : goal.returns
returns c =
    let added = with_held c.args.action.now.source (parts_view c.args.parts).content in
    nothing_before c.args.children.now c.add_act.new.self c.add_held.new.self _ c.args.action.now.place added added c.nothing.ensures c.in_ok-add_act.ensures (λ rest. refl) c.add_held.ensures
