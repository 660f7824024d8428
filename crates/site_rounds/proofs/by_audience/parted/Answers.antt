use Rattle.std.proofs.Common.{arith}
use Rattle.site_rounds.proofs.Parted.{parted_so}
use Rattle.site_rounds.proofs.by_audience.parted.Goals as goal

pub returns : goal.returns
returns g c =
    parted_so c.args.shown _ _ c.args.passes.items c.split_off.new.self.items c.split_off-2.new.self.items c.in_ok-editors.editors.items c.in_ok-previews.previews.items
    c.in_ok-previews.ensures.items c.in_ok-previews.ensures.tail c.in_ok-editors.ensures.items c.in_ok-editors.ensures.tail (omega arith) (omega arith)
