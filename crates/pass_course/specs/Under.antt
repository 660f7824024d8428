-- The request that a pass has under way, and its tree.
use Rattle.std.specs.Prelude.{◌≡◌, ℕ, ◌-◌, ◌<◌, ◌&&◌, ◌==◌, Bool, true, false, List, [], ◌∷◌, Option, Some, None, nat_lt, slice_get}
use Rattle.std.specs.Str.{bytes_eq}
use Rattle.site_words.specs.Law.{own, run_of, trees_of}
use Rattle.site_words.specs.Opening.{no_fault}
use Rattle.site_words.specs.declared.words.Entry.{Entry}
use Rattle.site_words.specs.declared.words.Opening.{Opening}
use Rattle.site_words.specs.declared.words.Run.{Run}
use Rattle.source_tree.specs.Limits.{tree_fault}
use Rattle.source_tree.specs.declared.file.File.{File}

-- a pass has this request under way, with this tree, which is within its limits
pub record Under (x : Opening) (pass : ℕ) (seen : List Entry) (request : ℕ) (tree : List File) (run : Run) : Type 0 where
  pub within : pass < x.passes
  pub limits : tree_fault tree ≡ None
  pub run_is : run_of (own pass seen) ≡ Some run
  pub request_is : run.request ≡ request
  pub tree_is : slice_get (trees_of x seen) (run.version - x.version) ≡ Some tree

-- the same as a test

abbrev pub same_file : File → File → Bool
same_file a b = bytes_eq a.path b.path && (bytes_eq a.text b.text && (a.stamp == b.stamp))

abbrev pub same_files : List File → List File → Bool
same_files [] [] = true
same_files [] (b ∷ others) = false
same_files (a ∷ rest) [] = false
same_files (a ∷ rest) (b ∷ others) = same_file a b && same_files rest others

abbrev pub is_tree : List File → Option (List File) → Bool
is_tree tree None = false
is_tree tree (Some other) = same_files tree other

-- whether this is the request that is under way, and this its tree
abbrev pub is_run : Opening → List Entry → (request : ℕ) → List File → Option Run → Bool
is_run x seen request tree None = false
is_run x seen request tree (Some run) = (run.request == request) && is_tree tree (slice_get (trees_of x seen) (run.version - x.version))

-- whether a pass has this request under way, with this tree, which is within its limits
unfoldable pub is_under : Opening → (pass : ℕ) → List Entry → (request : ℕ) → List File → Bool
is_under x pass seen request tree = nat_lt pass x.passes && (no_fault (tree_fault tree) && is_run x seen request tree (run_of (own pass seen)))
