-- What a pass did, by what it has seen of the history.
use Rattle.std.specs.Prelude.{◌≡◌, ◌<◌, ℕ, List, ◌++◌, map, None}
use Rattle.edges.specs.History.{IsFront}
use Rattle.site_words.specs.Law.{Legal, own, run_of}
use Rattle.site_words.specs.Trees.{Needs}
use Rattle.site_words.specs.declared.words.Entry.{Entry}
use Rattle.site_words.specs.declared.words.Op.{Op}
use Rattle.site_words.specs.declared.words.Opening.{Opening}
use Rattle.site_words.specs.declared.words.Reply.{Reply}

-- an entry as an operation with its reply
abbrev pub call_of : ℕ × Entry → Op × Reply
call_of e = (e.1.op, e.1.reply)

-- the pass has seen more of a legal history, in which it did these and was replied so, in order, and nothing else
pub record HasDone (needs : Needs) (x : Opening) (pass : ℕ) (old new : List Entry) (calls : List (Op × Reply)) : Type 0 where
  pub longer : IsFront old new
  pub entries : List (ℕ × Entry)
  pub grown : own pass new ≡ own pass old ++ entries
  pub calls_are : map call_of entries ≡ calls
  pub is_legal : Legal needs x new

-- the pass is one of the site's, and has no request under way
abbrev pub IsIdle : Opening → (pass : ℕ) → List Entry → Type 0
IsIdle x pass seen = (pass < x.passes) × (run_of (own pass seen) ≡ None)
