use Rattle.edges_tests.proofs.tests.a_count_is_kept_where_asked.Given as goal

abbrev pub ghosts-counted : goal.ghosts-counted
ghosts-counted g a = record { name = a.blank.name; parts = a.blank.parts }

abbrev pub ghosts-unseen : goal.ghosts-unseen
ghosts-unseen g a = record { name = a.blank.name; parts = a.blank.parts }
