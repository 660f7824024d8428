use Rattle.std.proofs.Common.{◌∙◌, ap, arith, refl}
use Rattle.edges.proofs.ToldBytes.{appends_none}
use Rattle.pages_record.proofs.Chain.{never_read, none_recorded, too_long, unlisted, whole_comes}
use Rattle.site_core.specs.Lived.{Lived}
use Rattle.pages_record.proofs.recording.record.Goals as goal

pub returns-in-Err-NoMemory-clause-comes : goal.returns-in-Err-NoMemory-clause-comes
returns-in-Err-NoMemory-clause-comes g c =
    let stopped = c.in-Err-NoMemory.ensures.stopped in
    record { came = stopped.0; consumed = stopped.1; short = none_recorded _ stopped.0 _ _ }

pub returns-in-Err-Fault-clause-comes : goal.returns-in-Err-Fault-clause-comes
returns-in-Err-Fault-clause-comes g c =
    let stopped = c.in-Err-Fault.ensures.stopped in
    record { came = stopped.0; consumed = stopped.1; silent = appends_none _; unread = refl }

pub returns-then-len-gt-MAX_INPUT_BYTES-clause-comes : goal.returns-then-len-gt-MAX_INPUT_BYTES-clause-comes
returns-then-len-gt-MAX_INPUT_BYTES-clause-comes g c =
    too_long _ _ (g.K.Sink.taken c.args.sink.now) c.args.steps.now c.in-Ok.input.items c.in-Ok.ensures.come (omega (arith, c.if-len-gt-MAX_INPUT_BYTES.true, c.in-Ok.input.ok.0))

pub returns-then-not-is_list-clause-comes : goal.returns-then-not-is_list-clause-comes
returns-then-not-is_list-clause-comes g c =
    unlisted _ _ (g.K.Sink.taken c.args.sink.now) c.args.steps.now c.in-Ok.input.items c.deref.result.now c.deref.ensures.value c.in-Ok.ensures.come (c.if-not-is_list.ensures.unlisted refl)

pub returns-in_default-clause-comes : goal.returns-in_default-clause-comes
returns-in_default-clause-comes g c = record { came = c.in-Ok.input.items; consumed = c.in-Ok.ensures.come.consumed; short = none_recorded _ c.in-Ok.input.items _ _ }

pub record_all-requires-clause-one : goal.record_all-requires-clause-one
record_all-requires-clause-one g c = rw (c.into_site.ensures, c.in-Ok-start_alone.ensures.opening) refl

pub record_all-requires-clause-new : goal.record_all-requires-clause-new
record_all-requires-clause-new g c = ap (λ (s : Lived). s.history) c.into_site.ensures ∙ c.in-Ok-start_alone.ensures.history

pub record_all-requires-clause-listed : goal.record_all-requires-clause-listed
record_all-requires-clause-listed g c = rw (c.deref-2.ensures.value, ← c.deref.ensures.value) (c.if-not-is_list.ensures.listed refl)

pub returns-clause-comes : goal.returns-clause-comes
returns-clause-comes g c =
    whole_comes c.record_all.result _ _ _ _ _ _ _ _ c.in-Ok.input.items c.deref.result.now c.deref-2.result.now (ap (λ (s : Lived). s.opening) c.into_site.ensures ∙ c.in-Ok-start_alone.ensures.opening) c.deref.ensures.value c.deref-2.ensures.value
    c.in-Ok.ensures.come (omega (arith, c.if-len-gt-MAX_INPUT_BYTES.false, c.in-Ok.input.ok.0)) (c.if-not-is_list.ensures.listed refl) c.record_all.ensures.comes

pub returns-clause-unfailing : goal.returns-clause-unfailing
returns-clause-unfailing g c = λ never. (never_read c.record_all.result _ _ _ _ _ _ c.record_all.ensures.comes, (c.in-Ok.ensures.unfailing never).1)

pub returns-clause-read : goal.returns-clause-read
returns-clause-read g c = λ is. absurd (never_read c.record_all.result _ _ _ _ _ _ c.record_all.ensures.comes is)
