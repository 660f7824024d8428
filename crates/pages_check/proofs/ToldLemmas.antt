-- What is said of a report that was written whole, or in part.
use Rattle.std.proofs.Common.{◌≡◌, ◌+◌, ℕ, true, false, List, Option, Some, None, subst, sym}
use Rattle.pg_text.specs.declared.place.PageFault.{PageFault}
use Rattle.http_out.specs.Sent.{Sent}
use Rattle.pages_check.specs.declared.checked.Checked.{Checked}
use Rattle.pages_check.specs.Check.{IsReported, StoppedWriting, Tells, check_steps, report, verdict}
use Rattle.source_tree.specs.declared.limits.TheConstants.{MAX_FILE_BYTES}
use Rattle.whole_input.specs.Come.{HasCome}
use Rattle.pages_check.specs.Page.{page_fault}

-- a verdict is told as a report
pub told_reported : (fault : Option PageFault) (answer : Checked) {path : List ℕ} {left later old new : Option (List ℕ)} {before now : ℕ} → answer ≡ verdict fault
    → IsReported path left later old new before now answer → Tells path left later old new before now answer
told_reported None answer {path} {left} {later} {old} {new} {before} {now} e is =
    subst (Tells path left later old new before now) (sym e) (subst (IsReported path left later old new before now) e is)
told_reported (Some fault) answer {path} {left} {later} {old} {new} {before} {now} e is =
    subst (Tells path left later old new before now) (sym e) (subst (IsReported path left later old new before now) e is)

pub told_written : (path came line : List ℕ) (left later old new : Option (List ℕ)) (before now : ℕ) (answer : Checked) → HasCome MAX_FILE_BYTES left later came → answer ≡ verdict (page_fault path came)
    → line ≡ report (page_fault path came) → Sent old new line false → now ≡ before + check_steps path came → Tells path left later old new before now answer
told_written path came line left later old new before now answer come e same sent steps = told_reported (page_fault path came) answer e (record {
  came = came;
  come = come;
  answered = e;
  written = subst (λ l. Sent old new l false) same sent;
  steps = steps;
})

pub told_broken : (path came line : List ℕ) (left later old new : Option (List ℕ)) (before now : ℕ) → HasCome MAX_FILE_BYTES left later came
    → line ≡ report (page_fault path came) → Sent old new line true → now ≡ before + check_steps path came → StoppedWriting path left later old new before now
told_broken path came line left later old new before now come same sent steps = of (subst (λ l. Sent old new l true) same sent)
  where
    of : Sent old new (report (page_fault path came)) true → StoppedWriting path left later old new before now
    of s = record { came = came; come = come; broke = record { count = s.0; within = s.1; written = s.2 }; steps = steps }
