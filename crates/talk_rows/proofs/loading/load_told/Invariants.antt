use Rattle.talk_rows.proofs.loading.load_told.Given as goal

abbrev pub ghosts-loaded : goal.ghosts-loaded
ghosts-loaded a = record { name = a.blank.name; parts = a.blank.parts }
