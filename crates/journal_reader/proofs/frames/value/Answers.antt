use Rattle.std.proofs.Common.{[], ◌∷◌, ap, arith, length, refl}
use Rattle.std.proofs.lemmas.List.{length-append}
use Rattle.journal_reader.proofs.TurnLemmas.{none_open, turn_begins, turn_fills, turn_first, turn_last, turn_reads, turn_starves, turn_stops, turn_waits, turns_left, turns_most}
use Rattle.journal_reader.proofs.frames.value.Goals as goal

pub returns-in_err-step : goal.returns-in_err-step
returns-in_err-step g c = turn_begins c.from_residual.result c.from_residual.ensures.1 c.in_err-step.ensures.read

pub read-init : goal.read-init
read-init g c = record { read = turn_first c.new-frames.result.items c.new-frames.ensures.items c.in_ok-step.ensures.read; counted = c.in_ok-step.ensures.read.counted }

pub returns-in_err-push-in-Waits : goal.returns-in_err-push-in-Waits
returns-in_err-push-in-Waits g c =
    turn_starves c.from_residual-in_err-push-in-Waits.result c.from_residual-in_err-push-in-Waits.ensures.1 refl c.read.invariant.read c.read.invariant.counted

pub returns-in_err-step-in-Waits : goal.returns-in_err-step-in-Waits
returns-in_err-step-in-Waits g c =
    turn_stops c.from_residual-in_err-step-in-Waits.result c.from_residual-in_err-step-in-Waits.ensures.1
    (turn_waits c.in-Waits.frame c.read.frames.items c.push.new.self.items c.in-Waits.is c.in_ok-push-in-Waits.ensures.items c.read.invariant.read) c.read.invariant.counted c.in_err-step-in-Waits.ensures.read

pub read-preserved-in_ok-step-in-Waits : goal.read-preserved-in_ok-step-in-Waits
read-preserved-in_ok-step-in-Waits g c = record {
  read = turn_reads c.push.new.self.items (turn_waits c.in-Waits.frame c.read.frames.items c.push.new.self.items c.in-Waits.is c.in_ok-push-in-Waits.ensures.items c.read.invariant.read) c.in_ok-step-in-Waits.ensures.read;
  counted = omega (arith, c.read.invariant.counted, c.in_ok-step-in-Waits.ensures.read.counted);
}

pub read-smaller-in_ok-step-in-Waits : goal.read-smaller-in_ok-step-in-Waits
read-smaller-in_ok-step-in-Waits g c =
    omega (arith, c.in_ok-step-in-Waits.ensures.falls, ap length c.in_ok-push-in-Waits.ensures.items, length-append c.read.frames.items (c.in-Waits.frame ∷ []), ap turns_left c.in-Waits.is, turns_most c.in_ok-step-in-Waits.step)

pub returns-in_default : goal.returns-in_default
returns-in_default g c = turn_last c.in-Whole.value c.read.frames.items c.in-Whole.is (none_open c.read.frames.items c.pop.result _ c.read.frames.ok.0 c.in_default.not-Some c.pop.ensures.variant.1) c.read.invariant.read c.read.invariant.counted

pub returns-in_err-step-in-Whole : goal.returns-in_err-step-in-Whole
returns-in_err-step-in-Whole g c =
    turn_stops c.from_residual-in_err-step-in-Whole.result c.from_residual-in_err-step-in-Whole.ensures.1
    (turn_fills c.in-Whole.value c.in-Some.frame c.pop.new.self.items c.read.frames.items c.in-Whole.is c.in-Some.ensures.items c.read.invariant.read) c.read.invariant.counted c.in_err-step-in-Whole.ensures

pub read-preserved : goal.read-preserved
read-preserved g c = record {
  read = turn_reads c.pop.new.self.items (turn_fills c.in-Whole.value c.in-Some.frame c.pop.new.self.items c.read.frames.items c.in-Whole.is c.in-Some.ensures.items c.read.invariant.read) c.in_ok-step-in-Whole.ensures;
  counted = omega (arith, c.read.invariant.counted, c.in_ok-step-in-Whole.ensures.counted);
}

pub read-smaller : goal.read-smaller
read-smaller g c =
    omega (arith, c.in_ok-step-in-Whole.ensures.answered.counted, ap length c.in-Some.ensures.items, length-append c.pop.new.self.items (c.in-Some.frame ∷ []), turns_most c.in_ok-step-in-Whole.step)
