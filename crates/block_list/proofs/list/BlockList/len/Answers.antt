use Rattle.std.proofs.Common.{◌≡◌, length, rules}
use Rattle.block_list.proofs.Places.{counted}
use Rattle.block_list.proofs.list.BlockList.len.Goals as goal

pub returns : goal.returns
returns g c =
    let many : c.len.result ≡ length c.self.inside.full.items = search rules in
    let some : c.len-2.result ≡ length c.self.inside.last.items = search rules in
    counted c.self.inside.full.items c.self.inside.last.items _ c.args.self.now c.len.result c.len-2.result c.self.invariant.filled c.self.view_is many some
