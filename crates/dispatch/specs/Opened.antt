-- A request that has just begun, as its port has it.
use Rattle.std.specs.Prelude.{◌≡◌, ◌≤◌, ℕ, List, [], Option}
use Rattle.pass_course.specs.Under.{Under}
use Rattle.request_pages.specs.Asked.{asked_in, told_in}
use Rattle.site_words.specs.Law.{own}
use Rattle.site_words.specs.declared.words.Entry.{Entry}
use Rattle.site_words.specs.declared.words.Opening.{Opening}
use Rattle.site_words.specs.declared.words.Run.{Run}
use Rattle.source_tree.specs.declared.file.File.{File}

-- it is under way with its session and its tree, nothing was asked yet, and what is left of its promise covers all that may be asked
pub record IsOpened (x : Opening) (pass : ℕ) (seen : List Entry) (request : ℕ) (session : Option ℕ) (tree : List File) : Type 0 where
  pub run : Run
  pub under : Under x pass seen request tree run
  pub session_is : run.session ≡ session
  pub left : 4320064 ≤ run.left
  pub asked : asked_in (own pass seen) ≡ []
  pub told : told_in x.seed (own pass seen) ≡ []
