-- What stands at each path of a tree, with a page as its program.
use Rattle.std.specs.Prelude.{ℕ, List}
use Rattle.code_lowering.specs.Programs.{stored_of}
use Rattle.run_world.specs.Program.{Stored}
use Rattle.source_tree.specs.declared.file.File.{File}
use Rattle.compiled_pages.specs.Pages.{paged_at}

-- what stands at a path of a tree, with a page as its program
abbrev pub stored_at : List File → (path : List ℕ) → Stored
stored_at tree path = stored_of (paged_at tree path)
