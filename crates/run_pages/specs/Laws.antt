-- What is true of the pages of every tree.
use Rattle.std.specs.Prelude.{List}
use Rattle.http_in.specs.declared.request.Request.{Request}
use Rattle.page_machine.specs.Run.{IsServed}
use Rattle.compiled_pages.specs.Made.{IsFaultOf, IsProgramOf}
use Rattle.run_world.specs.declared.around.Around.{Around}
use Rattle.source_tree.specs.declared.file.File.{File}

-- what may be told of a tree's pages stands at their paths, and the shapes of all programs fit
abbrev pub PagesAreServed : Type 0
PagesAreServed = (tree : List File) (request : Request) (around : Around) → IsServed IsProgramOf IsFaultOf tree request around
