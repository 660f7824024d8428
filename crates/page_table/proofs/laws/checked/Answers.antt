use Rattle.page_table.proofs.Ends.{each_run_ends}
use Rattle.page_table.proofs.Finding.{each_finds}
use Rattle.page_table.proofs.Turns.{never_stuck, turns_stand, turns_come_nearer, runs_leave_bodies}
use Rattle.page_table.proofs.laws.checked.Goals as goal

pub returns-clause-stuck : goal.returns-clause-stuck
returns-clause-stuck c = never_stuck

pub returns-clause-stand : goal.returns-clause-stand
returns-clause-stand c = turns_stand

pub returns-clause-bodies : goal.returns-clause-bodies
returns-clause-bodies c = runs_leave_bodies

pub returns-clause-nearer : goal.returns-clause-nearer
returns-clause-nearer c = turns_come_nearer

pub returns-clause-ends : goal.returns-clause-ends
returns-clause-ends c = each_run_ends

pub returns-clause-finds : goal.returns-clause-finds
returns-clause-finds c = each_finds
