use Rattle.std.proofs.Common.{◌<◌, ◌≤◌, ◌-◌, length, slice_index_or, subst, sym}
use Rattle.std.specs.List.Sorted.{IsNonDecreasingBy}
use Rattle.std.proofs.lemmas.List.Sorted.{IsNonDecreasingBy-push}
use Rattle.page_pieces.specs.declared.setting.BroughtPrefixes.{BroughtPrefixes}
use Rattle.page_pieces.proofs.brought.Brought.push.Goals as goal

pub invariant_of-self-2 : goal.invariant_of-self-2
invariant_of-self-2 c = λ stays.
    let key = λ (bringing : BroughtPrefixes). bringing.byte in
    let before = c.self.inside.items in
    let byte = c.args.bringing.byte in
    let follows = subst (λ xs. (d : BroughtPrefixes) → 0 < length xs → (slice_index_or xs (length xs - 1) d).byte ≤ byte) c.as_slice.ensures (c.stays_in_order-stays.ensures.last stays) in
    let in_order = c.self.invariant (c.stays_in_order-stays.ensures.before stays) in
    subst (IsNonDecreasingBy key) (sym c.in_ok-push.ensures.ok) (IsNonDecreasingBy-push key before c.args.bringing in_order follows)
