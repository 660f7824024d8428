use Rattle.std.proofs.Common.{add-one, refl}
use Rattle.word_equality.proofs.SameLists.{same_get}
use Rattle.word_equality.proofs.histories.same_entries.Goals as goal

pub loop-place-preserved : goal.loop-place-preserved
loop-place-preserved c =
    rw add-one
    (same_get c.args.one.now.items c.args.other.now.items c.loop-place.place c.in-Some-Some.entry.now c.in-Some-Some.other_entry.now c.in-Some-Some.ensures c.in-Some-Some.ensures' (c.if-not-is_same.ensures.0 refl) c.loop-place.invariant)
