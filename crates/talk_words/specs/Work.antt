-- The bytes that are read of a site's sources while requests are answered.
use Rattle.std.specs.Prelude.{◌≡◌, ℕ, ◌+◌, false, List, [], ◌∷◌, sum_by, ⊤}
use Rattle.conversation.specs.Conversation.{Walked, closes}
use Rattle.conversation.specs.Exchange.{Exchange}
use Rattle.edges.specs.History.{IsFront}
use Rattle.page_answers.specs.Standing.{tree_at}
use Rattle.page_answers.specs.Turns.{page_bytes}
use Rattle.pass_course.specs.Course.{HasDone}
use Rattle.site_words.specs.Calls.{Acts}
use Rattle.site_words.specs.Law.{Legal}
use Rattle.site_words.specs.declared.words.Op.{Op}
use Rattle.site_words.specs.declared.words.Op.TheVariants as op
use Rattle.site_words.specs.declared.words.Reply.{Reply}
use Rattle.site_words.specs.declared.words.Reply.TheVariants as reply
use Rattle.source_tree.specs.declared.file.File.{File}
use Rattle.talk_words.specs.Connection.{Connection, Stand}
use Rattle.talk_words.specs.Said.{IsSaid}

-- the bytes of the files on which a page depends, where it was fetched and missed
abbrev pub missed_by : List File → Op × Reply → ℕ
missed_by tree (op.Fetch request path, reply.Fetched false) = page_bytes tree path
missed_by tree other = 0

-- those of all pages that were missed
abbrev pub missed : List File → List (Op × Reply) → ℕ
missed tree calls = sum_by (missed_by tree) calls

-- the tree of a request: the latest where it begins, at a front of what was seen afterwards
abbrev pub IsTreeOf : Connection → (old new : Stand) → List (Op × Reply) → List File → Type 0
IsTreeOf w old new ((op.Begin cookie moment, r) ∷ calls) tree =
    (begun : _) × Acts w.needs w.opening w.pass old.at.seen begun (op.Begin cookie moment) r × IsFront begun new.at.seen × (tree ≡ tree_at w.needs w.opening begun)
IsTreeOf w old new other tree = ⊤

-- an exchange did this, and read the bytes of the pages that it missed in its tree
pub record HasRead (w : Connection) (old new : Stand) : Type 0 where
  pub calls : List (Op × Reply)
  pub did : HasDone w.needs w.opening w.pass old.at.seen new.at.seen calls
  pub tree : List File
  pub is_tree : IsTreeOf w old new calls tree
  pub read : new.at.steps ≡ old.at.steps + missed tree calls

-- these exchanges read so many bytes together
abbrev pub AreRead : Connection → (number : ℕ) → (old : Stand) → List Exchange → (total : ℕ) → (new : Stand) → Type 0
AreRead w number old [] total new = (new ≡ old) × (total ≡ 0)
AreRead w number old (e ∷ exchanges) total new =
    (mid : Stand) × IsSaid w (closes number e.request) old e mid × (one : HasRead w old mid) × (rest : ℕ) × (total ≡ missed one.tree one.calls + rest) × AreRead w (number + 1) mid exchanges rest new

-- the count of bytes rose by exactly what these exchanges read
pub record IsWorkOf (w : Connection) (number : ℕ) (old : Stand) (exchanges : List Exchange) (new : Stand) : Type 0 where
  pub total : ℕ
  pub are_read : AreRead w number old exchanges total new
  pub rose : new.at.steps ≡ old.at.steps + total

-- a connection reads exactly the files on which the pages depend that it missed, each page in its request's tree
abbrev pub HasExactWork : Type 0
HasExactWork =
    (w : Connection) (number : ℕ) (old new : Stand) (exchanges : List Exchange) → Legal w.needs w.opening old.at.seen → Walked (IsSaid w) number old exchanges new → IsWorkOf w number old exchanges new
