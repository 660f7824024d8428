use Rattle.pages_record_tests.proofs.recorded.record_told.Given as goal

abbrev pub ghosts-recorded : goal.ghosts-recorded
ghosts-recorded a = record { name = a.blank.name; parts = a.blank.parts }
