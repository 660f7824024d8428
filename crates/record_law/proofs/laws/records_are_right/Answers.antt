use Rattle.record_law.proofs.RightRecords.{commands_are_right, records_are_right}
use Rattle.record_law.proofs.laws.records_are_right.Goals as goal

pub returns-clause-records : goal.returns-clause-records
returns-clause-records c = records_are_right c.rollover.ensures.sound c.one_talk.ensures.records c.each_once.ensures

pub returns-clause-command : goal.returns-clause-command
returns-clause-command c = commands_are_right (records_are_right c.rollover.ensures.sound c.one_talk.ensures.records c.each_once.ensures)
