use Rattle.page_rows.proofs.tree_row.tree_told.Given as goal

abbrev pub ghosts-run_told : goal.ghosts-run_told
ghosts-run_told a = record { name = a.blank.name; parts = 1 }
