use Rattle.talk_law.proofs.RightTalks.{records_are_right, runs_come_to_it, runs_show_it}
use Rattle.talk_law.proofs.Talks.{talks_are_one}
use Rattle.talk_law.proofs.laws.one_talk.Goals as goal

pub returns-clause-one : goal.returns-clause-one
returns-clause-one c = talks_are_one c.requests.ensures.more

pub returns-clause-comes : goal.returns-clause-comes
returns-clause-comes c = runs_come_to_it c.requests.ensures.more

pub returns-clause-shows : goal.returns-clause-shows
returns-clause-shows c = runs_show_it

pub returns-clause-records : goal.returns-clause-records
returns-clause-records c = records_are_right c.told_again.ensures
