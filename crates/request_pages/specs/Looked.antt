-- What a look at a path finds.
use Rattle.std.specs.Prelude.{◌≡◌, ◌⊎◌, ℕ, List, Result, Ok, Err}
use Rattle.page_meaning.specs.State.{State}
use Rattle.page_meaning.specs.Work.{fetched}
use Rattle.pg_text.specs.declared.place.PageFault.{PageFault}
use Rattle.run_world.specs.declared.program.Program.{Program}
use Rattle.site_words.specs.Running.{Asking, HasLooked, IsPaged}
use Rattle.site_words.specs.declared.app_port.Paged.{Paged}
use Rattle.site_words.specs.declared.app_port.Paged.TheVariants as found
use Rattle.source_tree.specs.Edits.{file_at}
use Rattle.source_tree.specs.declared.file.File.{File}

-- the state behind a look that found this: a page is fetched, and so is one with a fault
abbrev pub looked_at : List ℕ → Paged Program → State → State
looked_at path (found.Page program) s = fetched path s
looked_at path (found.Bad fault) s = fetched path s
looked_at path (found.Plain text) s = s
looked_at path found.Absent s = s

-- a look found what stands at the path; where memory ran out a page there may have been fetched
abbrev pub LookedSo : {E : Type 0} → (made : Program → List File → List ℕ → Type 0) → (faulty : PageFault → List File → List ℕ → Type 0) → List File → List ℕ → (stands : State → Type 0) → State → (old new : Asking) → Result (Paged Program) E → Type 0
LookedSo made faulty tree path stands s old new (Ok paged) = IsPaged made faulty tree path paged × stands (looked_at path paged s) × (new.answers ≡ old.answers)
LookedSo made faulty tree path stands s old new (Err e) = HasLooked old new path (file_at path tree) ⊎ (new ≡ old)
