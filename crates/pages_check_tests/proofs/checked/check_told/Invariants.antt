use Rattle.pages_check_tests.proofs.checked.check_told.Given as goal

abbrev pub ghosts-checked : goal.ghosts-checked
ghosts-checked a = record { name = a.blank.name; parts = a.blank.parts }
