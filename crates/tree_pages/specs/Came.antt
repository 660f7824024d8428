-- What comes of the page at a path of a tree.
use Rattle.std.specs.Prelude.{◌≡◌, ◌⊎◌, ◌+◌, ℕ, List, Option, Some, None, Result, Ok, Err, ⊤}
use Rattle.page_machine.specs.Run.{DepthSo}
use Rattle.page_machine.specs.declared.running.RunEnd.{RunEnd}
use Rattle.compiled_pages.specs.Made.{IsFaultOf, IsPageAt}
use Rattle.compiled_pages.specs.Pages.{unit_in}
use Rattle.page_meaning.specs.Page.{Page}
use Rattle.source_tree.specs.declared.file.File.{File}
use Rattle.tree_pages.specs.declared.running.TreeEnd.{TreeEnd}
use Rattle.tree_pages.specs.declared.running.TreeEnd.TheVariants as came
use Rattle.unit_source.specs.Files.{text_in}
use Rattle.unit_words.specs.Needs.{bytes_of}
use Rattle.unit_words.specs.Unit.{Unit}

-- the bytes of a unit's dependencies, each once
abbrev pub unit_bytes : List File → Option Unit → ℕ
unit_bytes tree None = 0
unit_bytes tree (Some unit) = bytes_of (text_in tree) unit.deps

-- the bytes of the files that the page at a path needs, each once
abbrev pub bytes_at : List File → (path : List ℕ) → ℕ
bytes_at tree path = unit_bytes tree (unit_in tree path)

-- the steps of reading a page: its bytes, or, where memory ran out, perhaps none
abbrev pub HasCounted : {A E : Type 0} → List File → (path : List ℕ) → (old new : ℕ) → Result A E → Type 0
HasCounted tree path old new (Ok made) = new ≡ old + bytes_at tree path
HasCounted tree path old new (Err e) = (new ≡ old) ⊎ (new ≡ old + bytes_at tree path)

-- the page at a path ran so, or this is its fault
abbrev pub ComesSo : List File → (path : List ℕ) → (ran : Page → RunEnd → Type 0) → TreeEnd → Type 0
ComesSo tree path ran (came.Faulty fault) = IsFaultOf fault tree path
ComesSo tree path ran (came.Ran end) = (page : Page) × IsPageAt page tree path × ran page end
ComesSo tree path ran came.NoMemory = ⊤

-- the steps of a page that has a fault or ran are its bytes
abbrev pub StepsSo : List File → (path : List ℕ) → (old new : ℕ) → TreeEnd → Type 0
StepsSo tree path old new came.NoMemory = (new ≡ old) ⊎ (new ≡ old + bytes_at tree path)
StepsSo tree path old new other = new ≡ old + bytes_at tree path

-- where no page ran this is as it was
abbrev pub IsUntouched : {A : Type 0} → (old new : A) → TreeEnd → Type 0
IsUntouched old new (came.Ran end) = ⊤
IsUntouched old new other = new ≡ old

-- how deep the target of a forward runs; another end leaves the depth as it was
abbrev pub KeepsDepth : (old new : ℕ) → TreeEnd → Type 0
KeepsDepth old new (came.Ran end) = DepthSo old new end
KeepsDepth old new other = new ≡ old
