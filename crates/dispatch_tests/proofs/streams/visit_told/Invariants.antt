use Rattle.dispatch_tests.proofs.streams.visit_told.Given as goal

abbrev pub ghosts-streamed : goal.ghosts-streamed
ghosts-streamed a = record { name = a.blank.name; parts = a.blank.parts }
