use Rattle.std.proofs.Common.{◌≡◌, ◌/◌, length, Some, None, subst, rules}
use Rattle.std.specs.Slice.{IsItemAt}
use Rattle.block_list.proofs.Places.{found, missed}
use Rattle.block_list.proofs.list.BlockList.get.Goals as goal

pub returns-in-Some : goal.returns-in-Some
returns-in-Some g c =
    let there = subst (λ bs. IsItemAt bs (c.args.place / 4096) (Some c.in-Some.block)) c.deref.ensures.value c.in-Some.ensures.lookup in
    found c.self.inside.full.items c.self.inside.last.items _ c.args.place c.args.self.now c.in-Some.block c.deref-in-Some.result.now c.get-in-Some.result c.self.invariant.filled c.self.view_is there c.deref-in-Some.ensures.value
    c.get-in-Some.ensures.lookup

pub returns-in-None : goal.returns-in-None
returns-in-None g c =
    let past = subst (λ bs. IsItemAt bs (c.args.place / 4096) None) c.deref.ensures.value c.in-None.ensures.lookup in
    let many : c.len.result ≡ length c.self.inside.full.items = search rules in
    missed c.self.inside.full.items c.self.inside.last.items _ c.args.place c.len.result c.args.self.now c.deref-in-None.result.now c.get-in-None.result c.self.invariant.filled c.self.view_is past.3 many
    c.deref-in-None.ensures.value c.get-in-None.ensures.lookup
