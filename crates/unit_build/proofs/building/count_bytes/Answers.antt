use Rattle.std.proofs.Common.{arith}
use Rattle.unit_source.specs.Files.{text_in}
use Rattle.unit_build.proofs.BuildingLemmas.{next_counted}
use Rattle.unit_build.proofs.building.count_bytes.Goals as goal

pub loop-name-preserved : goal.loop-name-preserved
loop-name-preserved g c =
    next_counted (text_in c.args.tree.now) c.args.names.now c.loop-name.name-index c.name-item.result _ _ _ _ (omega arith) c.name-item.is c.loop-name.invariant
    c.bytes_in.ensures c.tick.ensures
