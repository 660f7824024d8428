-- The steps of reading a page.
use Rattle.std.proofs.Common.{◌≡◌, ◌+◌, ℕ, List, Some, sym, ap}
use Rattle.std.specs.Prelude.{Result, Ok, Err}
use Rattle.std.proofs.Common.{inr}
use Rattle.compiled_pages.specs.Pages.{unit_in}
use Rattle.source_tree.specs.declared.file.File.{File}
use Rattle.tree_pages.specs.Came.{HasCounted, bytes_at, unit_bytes}
use Rattle.unit_source.specs.Files.{text_in}
use Rattle.unit_words.specs.Needs.{bytes_of}
use Rattle.unit_words.specs.Unit.{Unit}

-- the bytes of a path's unit are those of the path
pub bytes_of_unit : (tree : List File) (path : List ℕ) (unit : Unit) → unit_in tree path ≡ Some unit → bytes_of (text_in tree) unit.deps ≡ bytes_at tree path
bytes_of_unit tree path unit is = sym (ap (unit_bytes tree) is)

-- whatever comes of a unit that was read, its bytes are counted
pub counted_all : {A E : Type 0} (tree : List File) (path : List ℕ) (old new : ℕ) (result : Result A E) → new ≡ old + bytes_at tree path → HasCounted tree path old new result
counted_all tree path old new (Ok made) is = is
counted_all tree path old new (Err e) is = inr is
