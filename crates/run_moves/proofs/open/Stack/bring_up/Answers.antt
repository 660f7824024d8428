use Rattle.std.proofs.Common.{◌≡◌, ◌-◌, ◌++◌, length, ap, sym, ◌∙◌, arith}
use Rattle.std.specs.Prelude.{drop, map, reverse, take}
use Rattle.std.proofs.lemmas.List.{with_items_is}
use Rattle.run_moves.proofs.Stacks.{brought_of, turned_size}
use Rattle.run_moves.proofs.open.Stack.bring_up.Goals as goal
use Rattle.pg_value.specs.Value.{datum_of}

pub returns : goal.returns
returns c =
    let held = c.self.inside.values in
    let lent = c.deref_mut.result.now in
    let at = c.len.result - 1 - c.args.above in
    let turned = take at lent ++ (c.rotate_left.new.self ++ drop (length lent - at) (drop at lent)) in
    let counted : c.len.result ≡ length held.items = c.len.ensures ∙ held.ok.0 in
    let size : length turned ≡ held.len = turned_size lent c.rotate_left.new.self at (omega (arith, counted, ap length c.deref_mut.ensures.value)) c.rotate_left.ensures.len ∙ ap length c.deref_mut.ensures.value ∙ sym held.ok.0 in
    ap (λ items. reverse (map datum_of items)) (with_items_is held turned size)
    ∙ brought_of datum_of held.items lent c.rotate_left.new.self c.args.self.now c.len.result c.args.above c.self.view_is c.deref_mut.ensures.value counted c.requires c.rotate_left.ensures.after
