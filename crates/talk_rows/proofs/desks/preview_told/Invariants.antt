use Rattle.talk_rows.proofs.desks.preview_told.Given as goal

abbrev pub ghosts-previewed : goal.ghosts-previewed
ghosts-previewed a = record { name = a.blank.name; parts = a.blank.parts }
