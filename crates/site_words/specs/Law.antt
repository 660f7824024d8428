-- Legal histories, what a pass has of one, and what it may do by its own entries.
use Rattle.std.specs.Prelude.{◌≡◌, ℕ, ◌+◌, ◌-◌, ◌<◌, true, ◌==◌, List, [], ◌∷◌, ◌++◌, length, Option, Some, None, if◌then◌else◌, slice_get, slice_index_or, IsSomeAnd, ⊤}
use Rattle.std.specs.List.{fold}
use Rattle.source_tree.specs.declared.file.File.{File}
use Rattle.source_tree.specs.Edits.{after_edits}
use Rattle.site_words.specs.declared.words.AppReply.{AppReply}
use Rattle.site_words.specs.declared.words.Run.{Run}
use Rattle.site_words.specs.declared.words.Entry.{Entry}
use Rattle.site_words.specs.declared.words.Opening.{Opening}
use Rattle.site_words.specs.declared.words.Op.{Op}
use Rattle.site_words.specs.declared.words.Op.TheVariants as op
use Rattle.site_words.specs.declared.words.Reply.{Reply}
use Rattle.site_words.specs.declared.words.Reply.TheVariants as reply
use Rattle.edges.specs.declared.acted.Acted.TheVariants.{Did}
use Rattle.edges.specs.History as History
use Rattle.site_words.specs.Fits.{asks, fits}
use Rattle.site_words.specs.Ids.{id_of}
use Rattle.site_words.specs.Runs.{run_after}
use Rattle.site_words.specs.State.{State, start_of, moved}
use Rattle.site_words.specs.Step.{step}
use Rattle.source_tree.specs.Changed.{has_file}
use Rattle.site_words.specs.Trees.{Needs}

-- legal histories

-- the entry may come in this state, and has the reply that the state gives
pub record Follows (needs : Needs) (x : Opening) (s : State) (e : Entry) : Type 0 where
  pub fit : fits x s e.pass e.op ≡ true
  pub did : step needs x s e.pass e.op ≡ Did e.reply

-- each entry follows in the state that those before it make
abbrev pub LegalFrom : Needs → Opening → State → List Entry → Type 0
LegalFrom needs x s [] = ⊤
LegalFrom needs x s (e ∷ entries) = Follows needs x s e × LegalFrom needs x (moved needs x s e) entries

-- a history that an opening may have: each entry may come and has its reply
abbrev pub Legal : Needs → Opening → List Entry → Type 0
Legal needs x history = LegalFrom needs x (start_of x) history

-- own entries

-- the pass that made an entry
abbrev pub pass_of : Entry → ℕ
pass_of e = e.pass

-- the entries of a pass, each with its place
abbrev pub own_from : ℕ → ℕ → List Entry → List (ℕ × Entry)
own_from place pass entries = History.own_from pass_of place pass entries

-- the entries of a pass in a history, each with its place in it
abbrev pub own : ℕ → List Entry → List (ℕ × Entry)
own pass history = History.own pass_of pass history

-- the request that a pass has under way, by its own entries alone
abbrev pub run_of : List (ℕ × Entry) → Option Run
run_of entries = fold (λ run (e : ℕ × Entry). run_after run e.1.op e.1.reply) None entries

-- what a step of a request was told
pub data Answer : Type 0 where
  told : AppReply → Answer
  id : List ℕ → Answer

-- the answer that an entry is to a step of this request, where it is one
abbrev pub answer_in : List ℕ → Op → Reply → ℕ → List Answer
answer_in seed (op.App request step) (reply.App answer) r = if request == r then told answer ∷ [] else []
answer_in seed (op.Fresh request) (reply.Made session) r = if request == r then id (id_of seed session) ∷ [] else []
answer_in seed other answer r = []

-- the answers to the App and Fresh entries of a request, in order
abbrev pub answers : List ℕ → ℕ → List (ℕ × Entry) → List Answer
answers seed r [] = []
answers seed r (e ∷ entries) = answer_in seed e.1.op e.1.reply r ++ answers seed r entries

-- the published trees from an opening on, by the operations alone

-- the last tree
abbrev pub latest_of : List (List File) → List File
latest_of trees = slice_index_or trees (length trees - 1) []

-- version is that of the first tree
abbrev pub trees_after : ℕ → List (List File) → Op → List (List File)
trees_after version trees (op.Publish base edits) = trees ++ after_edits edits (version + length trees) (latest_of trees) ∷ []
trees_after version trees other = trees

-- the opening's tree and all that were published
abbrev pub trees_of : Opening → List Entry → List (List File)
trees_of x history = fold (λ trees (e : Entry). trees_after x.version trees e.op) (x.tree ∷ []) history

-- the tree of a version
abbrev pub TreeIs : Opening → List Entry → ℕ → List File → Type 0
TreeIs x history version tree = slice_get (trees_of x history) (version - x.version) ≡ Some tree

-- what a pass may do, by its own entries and the published trees

-- a file stands at the path in the tree of the request's version
abbrev pub FindsFile : ℕ → List (List File) → Option Run → List ℕ → Type 0
FindsFile version trees None path = ⊥
FindsFile version trees (Some run) path = IsSomeAnd (slice_get trees (run.version - version)) (λ tree. has_file path tree ≡ true)

-- what is offered stands in the request's tree; a Roll is never asked for
abbrev pub Finds : ℕ → List (List File) → Option Run → Op → Type 0
Finds version trees run (op.Offer request path) = FindsFile version trees run path
Finds version trees run op.Roll = ⊥
Finds version trees run other = ⊤

-- a pass never asks for a Roll
abbrev pub May : Opening → List Entry → ℕ → List (ℕ × Entry) → Op → Type 0
May x front pass entries o = (pass < x.passes) × (asks (run_of entries) o ≡ true) × Finds x.version (trees_of x front) (run_of entries) o

-- an operation that is always done
abbrev pub Sure : Opening → List Entry → ℕ → List (ℕ × Entry) → Op → Type 0
Sure x front pass entries (op.End request attrs) = asks (run_of entries) (op.End request attrs) ≡ true
Sure x front pass entries (op.Abandon request) = asks (run_of entries) (op.Abandon request) ≡ true
Sure x front pass entries other = ⊥
