use Rattle.std.proofs.Common.{◌≤◌, ◌+◌, ◌*◌, length}
use Rattle.journal_reader.proofs.TurnLemmas.{IsLeft, turns_left}
use Rattle.journal_reader.specs.Frames.{IsValueOf, Steps}
use Rattle.journal_reader.proofs.frames.value.Given as goal

-- what was read goes on with what is left behind this step, and of what is open
abbrev pub invariant-read : goal.invariant-read
invariant-read g l = record {
  read : Steps IsValueOf (IsLeft l.step l.frames.items) (g.S.Source.left l.fn.source) (g.S.Source.left l.source) l.fn.room l.room;
  counted : g.S.Source.faults l.fn.source ≤ g.S.Source.faults l.source;
}

abbrev pub decreases-read : goal.decreases-read
decreases-read g l = 3 * l.room + 2 * length l.frames.items + turns_left l.step
