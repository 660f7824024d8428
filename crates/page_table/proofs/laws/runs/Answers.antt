use Rattle.page_table.proofs.Frames.{runs_leave_frames, turns_leave_frames}
use Rattle.page_table.proofs.Growing.{run_grows}
use Rattle.page_table.proofs.OneEnd.{one_end}
use Rattle.page_table.proofs.laws.runs.Goals as goal

pub returns-clause-one : goal.returns-clause-one
returns-clause-one c = one_end

pub returns-clause-grow : goal.returns-clause-grow
returns-clause-grow c = run_grows

pub returns-clause-frames : goal.returns-clause-frames
returns-clause-frames c = runs_leave_frames

pub returns-clause-turns : goal.returns-clause-turns
returns-clause-turns c = turns_leave_frames
