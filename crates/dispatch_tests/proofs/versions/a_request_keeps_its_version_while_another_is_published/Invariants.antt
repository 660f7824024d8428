use Rattle.dispatch_tests.proofs.versions.a_request_keeps_its_version_while_another_is_published.Given as goal

abbrev pub ghosts-come_of : goal.ghosts-come_of
ghosts-come_of g a = record { name = a.blank.name; parts = a.blank.parts }
