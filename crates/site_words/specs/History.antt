-- What the trees of one history share, and how often was published.
use Rattle.std.specs.Prelude.{◌≡◌, ℕ, ◌+◌, ◌<◌, List, [], ◌∷◌, Bool, true, false, Option, Some, None, ⊤}
use Rattle.source_tree.specs.declared.file.File.{File}
use Rattle.source_tree.specs.Edits.{file_at}
use Rattle.site_words.specs.declared.words.Entry.{Entry}
use Rattle.site_words.specs.declared.words.Op.{Op}
use Rattle.site_words.specs.declared.words.Op.TheVariants as op
use Rattle.site_words.specs.Trees.{Each}

-- the file at a path has the text that its path and its stamp have, and a stamp below this one
abbrev pub IsTextOf : (List ℕ → ℕ → List ℕ) → ℕ → List ℕ → Option File → Type 0
IsTextOf text stamps path None = ⊤
IsTextOf text stamps path (Some file) = (file.stamp < stamps) × (file ≡ record { path = path; text = text path file.stamp; stamp = file.stamp })

-- the file at each path has the text that its path and its stamp have
abbrev pub TextsAre : (List ℕ → ℕ → List ℕ) → ℕ → List File → Type 0
TextsAre text stamps tree = (path : List ℕ) → IsTextOf text stamps path (file_at path tree)

-- a path and a stamp have one text in all these trees; stamps is the next one to be given
abbrev pub AreOneHistory : ℕ → List (List File) → Type 0
AreOneHistory stamps trees = (text : List ℕ → ℕ → List ℕ) × Each (TextsAre text stamps) trees

-- one for a publishing, none for another operation
abbrev pub is_publish : Op → ℕ
is_publish (op.Publish base edits) = 1
is_publish other = 0

-- how many publishings there are
abbrev pub publishes : List Entry → ℕ
publishes [] = 0
publishes (e ∷ entries) = is_publish e.op + publishes entries

-- no entry is a Roll
abbrev pub goes_on : Op → Bool
goes_on op.Roll = false
goes_on other = true
