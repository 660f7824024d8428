use Rattle.talk_rows.proofs.desks.contexts_told.Given as goal

abbrev pub ghosts-contexts : goal.ghosts-contexts
ghosts-contexts a = record { name = a.blank.name; parts = a.blank.parts }
