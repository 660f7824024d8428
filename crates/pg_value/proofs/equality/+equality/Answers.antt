use Rattle.std.proofs.Common.{arith, sym, ◌∙◌}
use Rattle.pg_value.specs.Datum.{entries_of}
use Rattle.pg_value.specs.Equality.{have_same}
use Rattle.pg_value.specs.Value.{entry_of}
use Rattle.pg_value.proofs.SameEntries.{got_size, one_other, one_same}
use Rattle.pg_value.proofs.equality.+equality.Goals as goal

pub have_equal-is_same_entry-requires : goal.have_equal-is_same_entry-requires
have_equal-is_same_entry-requires t c = omega (arith, c.decreases, got_size c.args.left.now c.loop-i.i (entry_of c.entry-one.result.now) c.entry-one.ensures)

pub have_equal-loop-i-preserved : goal.have_equal-loop-i-preserved
have_equal-loop-i-preserved t c =
    one_same c.args.left.now c.args.right.now c.loop-i.i (entry_of c.entry-one.result.now) (entry_of c.entry-other.result.now) (have_same (entries_of c.args.left.now) (entries_of c.args.right.now))
    c.entry-one.ensures c.entry-other.ensures (sym c.is_same_entry.ensures ∙ c.if-not-is_same_entry.false) c.loop-i.invariant

pub have_equal-returns-then-not-is_same_entry : goal.have_equal-returns-then-not-is_same_entry
have_equal-returns-then-not-is_same_entry t c =
    one_other c.args.left.now c.args.right.now c.loop-i.i (entry_of c.entry-one.result.now) (entry_of c.entry-other.result.now) (have_same (entries_of c.args.left.now) (entries_of c.args.right.now))
    c.entry-one.ensures c.entry-other.ensures (sym c.is_same_entry.ensures ∙ c.if-not-is_same_entry.true) c.loop-i.invariant
