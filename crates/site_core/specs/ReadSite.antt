-- What is always so of the fields of a site.
use Rattle.std.specs.Prelude.{◌≡◌, ℕ, ◌*◌, ◌^◌, ◌<◌, ◌≤◌, true, List, length}
use Rattle.source_tree.specs.declared.file.File.{File}
use Rattle.site_words.specs.declared.words.Entry.{Entry}
use Rattle.site_words.specs.declared.words.Opening.{Opening}
use Rattle.site_words.specs.Law.{Legal}
use Rattle.site_words.specs.Opening.{is_sound}
use Rattle.site_words.specs.State.{after}
use Rattle.site_words.specs.Trees.{Needs}
use Rattle.site_state.specs.Parts.{Parts, state_of}
use Rattle.site_state.specs.Sources.{AreThere}
use Rattle.site_state.specs.Spare.{open_runs}
use Rattle.site_state.specs.Works.{AreKept}

-- the state that is held is the one that the history makes of the opening; room is how many entries more the history has memory for
pub record IsSite {P : Type 0} (needs : Needs) (made : P → List File → List ℕ → Type 0) (x : Opening) (history : List Entry) (parts : Parts P) (room : ℕ) : Type 0 where
  pub state : state_of x history parts ≡ after needs x history
  pub legal : Legal needs x history
  pub sound : is_sound x ≡ true
  pub limit : x.limit < 2 ^ 64
  pub spare : open_runs parts.runs ≤ room
  pub there : AreThere (length history) parts.sessions
  pub short : 64 * length history ≤ parts.weight
  pub kept : AreKept made parts.tree parts.kept
