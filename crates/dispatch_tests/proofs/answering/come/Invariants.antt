use Rattle.dispatch_tests.proofs.answering.come.Given as goal

abbrev pub ghosts-come_of : goal.ghosts-come_of
ghosts-come_of a = record { name = a.blank.name; parts = a.blank.parts }
