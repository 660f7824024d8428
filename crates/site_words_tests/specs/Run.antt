-- Runs a list of operations, for worked cases.
use Rattle.std.specs.Prelude.{ℕ, zero, suc, Bool, true, false, List, [], ◌∷◌, ◌++◌, map, Option, Some, None}
use Rattle.std.specs.List.{fold}
use Rattle.source_tree.specs.declared.file.File.{File}
use Rattle.source_tree.specs.Edits.{file_at}
use Rattle.edges.specs.declared.acted.Acted.{Acted}
use Rattle.edges.specs.declared.acted.Acted.TheVariants.{Did, Refused, NoMemory}
use Rattle.source_tree.specs.declared.need.Need.{Need}
use Rattle.site_words.specs.declared.words.KeptSession.{KeptSession}
use Rattle.site_words.specs.declared.words.Opening.{Opening}
use Rattle.site_words.specs.declared.words.Op.{Op}
use Rattle.site_words.specs.declared.words.Reply.{Reply}
use Rattle.site_words.specs.declared.words.Refusal.{Refusal}
use Rattle.site_words.specs.Trees.{Needs, text_in}
use Rattle.source_tree.specs.Stamps.{stamp_of}
use Rattle.pg_text.specs.Names.{with_name}
use Rattle.site_words.specs.State.{State, moved, start_of}
use Rattle.site_words.specs.Step.{step}
use Rattle.site_words.specs.Fits.{fits}
use Rattle.site_words.specs.Ids.{hex_digits}

-- a path needs itself and, for each byte of its text, the file of that one byte
abbrev pub toy_needs : Needs
toy_needs tree path = map (λ name. record { name = name; stamp = stamp_of name tree }) (fold (λ names c. with_name (47 ∷ c ∷ []) names) (path ∷ []) (text_in (file_at path tree)))

-- what an operation came to, if it might be asked for at all
pub data Seen : Type 0 where
  unfit : Seen
  seen : Acted Reply Refusal → Seen

-- the state after an answer
abbrev pub then_state : Opening → State → ℕ → Op → Acted Reply Refusal → State
then_state x s pass o (Did reply) = moved toy_needs x s (record { pass = pass; op = o; reply = reply })
then_state x s pass o (Refused refusal) = s
then_state x s pass o NoMemory = s

-- the answers and the state after one operation more, which may be asked for or not
abbrev pub then_seen : Opening → State → ℕ → Op → Bool → List Seen × State → List Seen × State
then_seen x s pass o false before = (before.0 ++ unfit ∷ [], s)
then_seen x s pass o true before = let answer : Acted Reply Refusal = step toy_needs x s pass o in (before.0 ++ seen answer ∷ [], then_state x s pass o answer)

-- the answers and the state after these operations, each with its pass
abbrev pub run_from : Opening → List Seen × State → List (ℕ × Op) → List Seen × State
run_from x before [] = before
run_from x before (o ∷ ops) = run_from x (then_seen x before.1 o.0 o.1 (fits x before.1 o.0 o.1) before) ops

-- the answers and the state that operations make of an opening
abbrev pub run_all : Opening → List (ℕ × Op) → List Seen × State
run_all x ops = run_from x ([], start_of x) ops

-- sessions with these numbers, used at 0, without attributes
abbrev pub many_sessions : ℕ → ℕ → List KeptSession
many_sessions zero number = []
many_sessions (suc count) number = record { number = number; used = 0; attrs = [] } ∷ many_sessions count (suc number)

-- empty files with paths of four digits
abbrev pub many_files : ℕ → ℕ → List File
many_files zero number = []
many_files (suc count) number = record { path = 47 ∷ hex_digits 4 number; text = []; stamp = 0 } ∷ many_files count (suc number)
