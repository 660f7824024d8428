use Rattle.std.proofs.Common.{◌<◌, length, arith}
use Rattle.unit_build.proofs.FoundLemmas.{needed_more}
use Rattle.unit_build.proofs.found.Found.need_all.Goals as goal

pub loop-name-preserved : goal.loop-name-preserved
loop-name-preserved c =
    let names = c.args.names.now in
    let i = c.loop-name.name-index in
    let within : i < length names = grind arith in
    needed_more names i c.name-item.result within c.name-item.is c.loop-name.invariant c.in_ok-need.ensures
