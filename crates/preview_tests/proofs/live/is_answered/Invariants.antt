use Rattle.preview_tests.proofs.live.is_answered.Given as goal

abbrev pub ghosts-previewed : goal.ghosts-previewed
ghosts-previewed a = record { name = a.blank.name; parts = a.blank.parts }
