-- The command `load`: its words, and the numbers that it tells.
use Rattle.std.specs.Prelude.{◌≡◌, ◌⊎◌, ℕ, ◌+◌, ◌&&◌, Bool, true, false, List, [], ◌∷◌, ◌++◌, codes, decimal, length, nat_eq, nat_le, sum_by, Option, Some, None, if◌then◌else◌, ⊤}
use Rattle.std.specs.List.{filter, starts_with}
use Rattle.std.specs.Option.{option_and_then}
use Rattle.std.specs.Str.{bytes_eq}
use Rattle.conversation.specs.declared.ended.Ended.{Ended}
use Rattle.conversation.specs.declared.ended.Ended.TheVariants.{Done, Refused}
use Rattle.edges.specs.Clock.{Moments}
use Rattle.http_out.specs.Sent.{Sent}
use Rattle.load_gen.specs.Messages.{asks, generated, messages}
use Rattle.pages_talk.specs.Play.{HasTalked, first_seed, opening_of}
use Rattle.pg_text.specs.Numbers.{whole_number}
use Rattle.site_words.specs.declared.words.Entry.{Entry}
use Rattle.site_words.specs.declared.words.Op.{Op}
use Rattle.site_words.specs.declared.words.Op.TheVariants as op
use Rattle.site_words.specs.declared.words.Reply.{Reply}
use Rattle.site_words.specs.declared.words.Reply.TheVariants as reply
use Rattle.talk_words.specs.Noted.{telling}

-- a number of pages, from 1 to 1,000
abbrev pub of_pages : ℕ → Option ℕ
of_pages number = if nat_le 1 number && nat_le number 1000 then Some number else None

-- the number of pages that the words ask for: they are `load` and that number in 1 to 18 digits
abbrev pub number_asked : List (List ℕ) → Option ℕ
number_asked [] = None
number_asked (word ∷ []) = None
number_asked (word ∷ digits ∷ []) = if bytes_eq word (codes "load") then option_and_then of_pages (whole_number digits) else None
number_asked (word ∷ digits ∷ next ∷ words) = None

-- the entry publishes
abbrev pub is_publishing : Entry → Bool
is_publishing e = of_op e.op
  where
    of_op : Op → Bool
    of_op (op.Publish base edits) = true
    of_op other = false

-- the entry fetches a page of which what is kept was taken
abbrev pub is_hit : Entry → Bool
is_hit e = of_reply e.reply
  where
    of_reply : Reply → Bool
    of_reply (reply.Fetched hit) = hit
    of_reply other = false

-- how many entries of a history are such
abbrev pub count : (Entry → Bool) → List Entry → ℕ
count is history = length (filter is history)

-- one where there is such an entry, else none
abbrev pub one_if : (Entry → Bool) → Option Entry → ℕ
one_if is None = 0
one_if is (Some e) = if is e then 1 else 0

-- how the answer to a page that went well begins
abbrev pub good_mark : List ℕ
good_mark = codes "HTTP/1.1 200 OK\r\nContent-Type: text/html"

-- at how many places of a text the mark begins
abbrev pub places : (mark text : List ℕ) → ℕ
places mark [] = 0
places mark (b ∷ rest) = (if starts_with nat_eq (b ∷ rest) mark then 1 else 0) + places mark rest

-- a word and its number on a line
abbrev pub line : (word : List ℕ) → ℕ → List ℕ
line word number = word ++ decimal number ++ codes "\n"

-- the five lines: the pages, the latest version, how often pages were asked for, how many went well, and for how many what was kept was taken
abbrev pub report : (number : ℕ) → List Entry → (answers : List ℕ) → List ℕ
report number history answers =
    (((line (codes "pages ") number ++ line (codes "version ") (count is_publishing history)) ++ line (codes "requests ") (sum_by asks (messages number)))
    ++ line (codes "ok ") (places good_mark answers)) ++ line (codes "hits ") (count is_hit history)

-- the messages for so many pages were sent to a new site, at the moment 0, and that ended so: these are its history and the answers
pub record IsSpoken (number : ℕ) (steps now : ℕ) (history : List Entry) (answers : List ℕ) (ended : Ended) : Type 0 where
  pub still : Moments
  pub later : Option (List ℕ)
  pub after : ℕ
  pub talked : HasTalked (opening_of first_seed) (telling (0 ∷ [])) still steps now (Some (generated number)) later 0 after (Some []) (Some answers) ended
  pub history_is : talked.history ≡ history

-- a conversation that ended so is whole: memory didn't run out in it, and nothing outside failed
abbrev pub IsWhole : Ended → Type 0
IsWhole Done = ⊤
IsWhole (Refused fault) = ⊤
IsWhole other = ⊥

-- they were sent, and the conversation was whole
pub record IsLoaded (number : ℕ) (steps now : ℕ) (history : List Entry) (answers : List ℕ) : Type 0 where
  pub ended : Ended
  pub whole : IsWhole ended
  pub spoken : IsSpoken number steps now history answers ended

-- what was read where no numbers are told: nothing, or what was read for the messages until the conversation ended
abbrev pub IsUntold : (number : ℕ) → (steps now : ℕ) → Type 0
IsUntold number steps now = (now ≡ steps) ⊎ ((history : List Entry) × (answers : List ℕ) × (ended : Ended) × IsSpoken number steps now history answers ended)

-- that was done, and its numbers are these lines
pub record HasReport (number : ℕ) (steps now : ℕ) (lines : List ℕ) : Type 0 where
  pub history : List Entry
  pub answers : List ℕ
  pub loaded : IsLoaded number steps now history answers
  pub lines_are : lines ≡ report number history answers

-- that was done, and the lines were written, or, where the sink failed, a part of them
pub record HasLoaded (number : ℕ) (steps now : ℕ) (old new : Option (List ℕ)) (failed : Bool) : Type 0 where
  pub lines : List ℕ
  pub report : HasReport number steps now lines
  pub sent : Sent old new lines failed
