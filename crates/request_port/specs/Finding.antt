-- How the page at a path is found for a request.
use Rattle.std.specs.Prelude.{◌≡◌, ◌⊎◌, ℕ, ◌+◌, ◌≤◌, Bool, List, [], ◌∷◌, true, Result, Ok, Err}
use Rattle.std.specs.List.{list_all}
use Rattle.page_answers.specs.Turns.{Turn, all_bytes, all_calls, hit, is_whole, missed, page_bytes, unoffered}
use Rattle.pass_course.specs.Course.{HasDone}
use Rattle.site_words.specs.Trees.{Needs}
use Rattle.site_words.specs.declared.words.Entry.{Entry}
use Rattle.site_words.specs.declared.words.Op.TheVariants as op
use Rattle.site_words.specs.declared.words.Opening.{Opening}
use Rattle.site_words.specs.declared.words.Reply.TheVariants as reply
use Rattle.source_tree.specs.declared.file.File.{File}

-- what was made of a path was offered, and the files on which it depends were read; where memory
-- ran out nothing was offered, and no more was read
abbrev pub Offers : Needs → Opening → (pass : ℕ) → (old new : List Entry) → (before now : ℕ) → (request : ℕ) → List File → (path : List ℕ) → {A E : Type 0} → Result A E → Type 0
Offers needs x pass old new before now request tree path (Ok a) =
    (kept : Bool) × HasDone needs x pass old new ((op.Offer request path, reply.Offered kept) ∷ []) × (now ≡ before + page_bytes tree path)
Offers needs x pass old new before now request tree path (Err e) = HasDone needs x pass old new [] × (now ≤ before + page_bytes tree path)

-- the turn that finding the page at a path is: what is kept was taken, or the page was made anew
-- and offered; where memory ran out none, or one without its offer
abbrev pub Finds : (path : List ℕ) → {A E : Type 0} → Result A E → List Turn → Type 0
Finds path (Ok a) turns = (turns ≡ hit path ∷ []) ⊎ ((kept : Bool) × (turns ≡ missed path kept ∷ []))
Finds path (Err e) turns = (turns ≡ []) ⊎ (turns ≡ unoffered path ∷ [])

-- the page at a path was found so
pub record IsFound (needs : Needs) (x : Opening) (pass : ℕ) (old new : List Entry) (before now : ℕ) (request : ℕ) (tree : List File) (path : List ℕ) {A E : Type 0} (result : Result A E) : Type 0 where
  pub turns : List Turn
  pub finds : Finds path result turns
  pub did : HasDone needs x pass old new (all_calls request turns)
  pub read : now ≤ before + all_bytes tree turns
  pub exact : list_all is_whole turns ≡ true → now ≡ before + all_bytes tree turns
