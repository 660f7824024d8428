use Rattle.pages_serve.proofs.context_pages.ContextPagesHandler.handle.Given as goal

abbrev pub ghosts-talk_uncounted : goal.ghosts-talk_uncounted
ghosts-talk_uncounted g a = record { name = a.blank.name; parts = a.blank.parts }
