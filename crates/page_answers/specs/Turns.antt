-- The steps of a request as they were done: what each asked, what it was told, and the entries that it used.
use Rattle.std.specs.Prelude.{ℕ, ◌+◌, ◌&&◌, Bool, true, false, List, [], ◌∷◌, map, flat_map, Option, Some, None}
use Rattle.site_words.specs.Ids.{id_of}
use Rattle.site_words.specs.Law.{Answer, told, id}
use Rattle.site_words.specs.PageSteps as asks
use Rattle.site_words.specs.declared.words.AppReply.{AppReply}
use Rattle.site_words.specs.declared.words.AppStep.{AppStep}
use Rattle.site_words.specs.declared.words.Op.{Op}
use Rattle.site_words.specs.declared.words.Op.TheVariants as op
use Rattle.site_words.specs.declared.words.Reply.{Reply}
use Rattle.site_words.specs.declared.words.Reply.TheVariants as reply
use Rattle.source_tree.specs.declared.file.File.{File}
use Rattle.unit_source.specs.Files.{text_in}
use Rattle.compiled_pages.specs.Needs.{bytes_of}
use Rattle.compiled_pages.specs.Pages.{unit_in}
use Rattle.compiled_pages.specs.Unit.{Unit}

-- a step that was done: one on the application's attributes with what it was told; a session that
-- was made; a page of which what is kept was taken; one that was made anew and offered, by whether
-- it was kept; and one that was missed and, as memory ran out, not offered
pub data Turn : Type 0 where
  stepped : AppStep → AppReply → Turn
  made : (session : ℕ) → Turn
  hit : (path : List ℕ) → Turn
  missed : (path : List ℕ) → (kept : Bool) → Turn
  unoffered : (path : List ℕ) → Turn

-- the step that a page asked in a turn
abbrev pub step_of : Turn → asks.Step
step_of (stepped step r) = asks.app step
step_of (made session) = asks.fresh
step_of (hit path) = asks.fetch path
step_of (missed path kept) = asks.fetch path
step_of (unoffered path) = asks.fetch path

-- the answer that the page got in a turn, of a site with this seed; the fetch of a page has none
abbrev pub answer_of : (seed : List ℕ) → Turn → List Answer
answer_of seed (stepped step r) = told r ∷ []
answer_of seed (made session) = id (id_of seed session) ∷ []
answer_of seed (hit path) = []
answer_of seed (missed path kept) = []
answer_of seed (unoffered path) = []

-- the entries that a turn used, each with its reply
abbrev pub calls_of : (request : ℕ) → Turn → List (Op × Reply)
calls_of request (stepped step r) = (op.App request step, reply.App r) ∷ []
calls_of request (made session) = (op.Fresh request, reply.Made session) ∷ []
calls_of request (hit path) = (op.Fetch request path, reply.Fetched true) ∷ []
calls_of request (missed path kept) = (op.Fetch request path, reply.Fetched false) ∷ (op.Offer request path, reply.Offered kept) ∷ []
calls_of request (unoffered path) = (op.Fetch request path, reply.Fetched false) ∷ []

-- the names on which a unit depends
abbrev pub names_of : Option Unit → List (List ℕ)
names_of None = []
names_of (Some unit) = unit.deps

-- the bytes of the files on which the page at a path depends
abbrev pub page_bytes : List File → (path : List ℕ) → ℕ
page_bytes tree path = bytes_of (text_in tree) (names_of (unit_in tree path))

-- the bytes that were read for a turn: those of the files on which a page depends that was made
-- anew
abbrev pub bytes_for : List File → Turn → ℕ
bytes_for tree (stepped step r) = 0
bytes_for tree (made session) = 0
bytes_for tree (hit path) = 0
bytes_for tree (missed path kept) = page_bytes tree path
bytes_for tree (unoffered path) = page_bytes tree path

-- the step of a turn was done whole
abbrev pub is_whole : Turn → Bool
is_whole (unoffered path) = false
is_whole other = true

-- of these turns only the last wasn't done whole, if any
abbrev pub are_whole_but_last : List Turn → Bool
are_whole_but_last [] = true
are_whole_but_last (turn ∷ []) = true
are_whole_but_last (turn ∷ next ∷ turns) = is_whole turn && are_whole_but_last (next ∷ turns)

-- the same of all turns of a request, in order

abbrev pub steps_of : List Turn → List asks.Step
steps_of turns = map step_of turns

abbrev pub answers_of : (seed : List ℕ) → List Turn → List Answer
answers_of seed turns = flat_map (answer_of seed) turns

abbrev pub all_calls : (request : ℕ) → List Turn → List (Op × Reply)
all_calls request turns = flat_map (calls_of request) turns

abbrev pub all_bytes : List File → List Turn → ℕ
all_bytes tree [] = 0
all_bytes tree (turn ∷ turns) = bytes_for tree turn + all_bytes tree turns
