use Rattle.std.proofs.Common.{◌≡◌, ◌+◌, ◌*◌, drop, map}
use Rattle.unit_source.specs.Files.{text_in}
use Rattle.unit_source.specs.ReadSplice.{reads, step_of, taken_of}
use Rattle.unit_source.specs.ReadSteps.{both_taken, taken}
use Rattle.unit_source.proofs.splice.+splicing.Given as goal

abbrev pub decreases-read_file : goal.decreases-read_file
decreases-read_file l = 9 * l.within.deep

abbrev pub decreases-find_nodes : goal.decreases-find_nodes
decreases-find_nodes l = 9 * l.file.now.within.deep + 7

abbrev pub decreases-take_steps : goal.decreases-take_steps
decreases-take_steps l = 9 * l.file.now.within.deep + 6

abbrev pub decreases-take_step : goal.decreases-take_step
decreases-take_step l = 9 * l.file.now.within.deep + 5

abbrev pub decreases-enter : goal.decreases-enter
decreases-enter l = 9 * l.file.now.within.deep + 4

abbrev pub decreases-enter_path : goal.decreases-enter_path
decreases-enter_path l = 9 * l.file.now.within.deep + 3

abbrev pub decreases-enter_source : goal.decreases-enter_source
decreases-enter_source l = 9 * l.file.now.within.deep + 2

abbrev pub decreases-enter_within : goal.decreases-enter_within
decreases-enter_within l = 9 * l.file.now.within.deep + 1

abbrev pub invariant-take_steps-loop-step : goal.invariant-take_steps-loop-step
invariant-take_steps-loop-step l = record {
  files : l.files ≡ l.fn.files;
  taken : both_taken (taken_of l.found.items l.progress) (taken (reads (text_in l.fn.files) l.file) l.file.brought.now (map step_of (drop l.step-index l.steps)) l.progress.going)
      ≡ both_taken (taken_of l.fn.found.items l.fn.progress) (taken (reads (text_in l.fn.files) l.file) l.file.brought.now (map step_of l.steps) l.fn.progress.going);
}
