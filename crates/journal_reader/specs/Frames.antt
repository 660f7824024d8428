-- Reading a value of any depth: what is left to come of it, by the lists and records that are open.
use Rattle.std.specs.Prelude.{◌≡◌, ◌≤◌, ℕ, ◌+◌, List, [], ◌∷◌, ◌++◌, length, map, flat_map, Option, Result, Ok, Err, ⊤}
use Rattle.std.specs.Io.KnownBytes.{Consumes}
use Rattle.journal_reader.specs.Reads.{AreSo, Stopped}
use Rattle.journal_reader.specs.Values.{IsPair, IsValue, of_pair}
use Rattle.journal_reader.specs.declared.frame.Frame.{Frame}
use Rattle.journal_reader.specs.declared.frame.Frame.TheVariants.{Items, Entries}
use Rattle.journal_reader.specs.declared.frame.Step.{Step}
use Rattle.journal_reader.specs.declared.frame.Step.TheVariants.{Whole, Waits}
use Rattle.journal_reader.specs.declared.head.Head.{Head}
use Rattle.journal_reader.specs.declared.head.Head.TheVariants as head
use Rattle.journal_reader.specs.declared.unread.Unread.{Unread}
use Rattle.pg_text.specs.declared.failure.Failure.{Failure}
use Rattle.pg_value.specs.Attrs.{AreInOrder}
use Rattle.pg_value.specs.Value.{datum_of, entry_of}
use Rattle.pg_value.specs.declared.value.Value.{Value}
use Rattle.pg_value.specs.declared.value.Value.TheVariants as variant
use Rattle.site_journal.specs.Codes.{IsNumber, of_number}
use Rattle.site_journal.specs.Journal.{of_value}

-- a value that is no list and no record
abbrev pub IsPlain : Value → Type 0
IsPlain (variant.List items) = ⊥
IsPlain (variant.Rec entries) = ⊥
IsPlain other = ⊤

-- how a value begins: a plain one is whole, a list and a record have their count
abbrev pub IsHead : Head → Type 0
IsHead (head.Plain value) = IsPlain value × IsValue value
IsHead (head.List count) = IsNumber count
IsHead (head.Record count) = IsNumber count

abbrev pub of_head : Head → List ℕ
of_head (head.Plain value) = of_value value
of_head (head.List count) = 4 ∷ of_number count
of_head (head.Record count) = 5 ∷ of_number count

-- which values a text makes, where something of them was read before it

-- it is the whole value
abbrev pub IsValueOf : Value → List ℕ → Type 0
IsValueOf v t = IsValue v × (t ≡ of_value v)

-- it is the rest of a list of which these items were read
abbrev pub IsListBehind : List Value → ℕ → Value → List ℕ → Type 0
IsListBehind done left v t = (rest : List Value) × AreSo left IsValue rest × (t ≡ flat_map of_value rest) × (v ≡ variant.List (map datum_of (done ++ rest)))

-- it is the rest of a record of which these entries were read
abbrev pub IsRecordBehind : List (List ℕ × Value) → ℕ → Value → List ℕ → Type 0
IsRecordBehind done left v t =
    (rest : List (List ℕ × Value)) × AreSo left IsPair rest × (t ≡ flat_map of_pair rest) × AreInOrder (map entry_of (done ++ rest)) × (v ≡ variant.Rec (map entry_of (done ++ rest)))

-- nothing is left to come of this one
abbrev pub IsWhole : Value → Value → List ℕ → Type 0
IsWhole x v t = (v ≡ x) × (t ≡ [])

-- it is the rest of the list or record, behind the value that it waited for
abbrev pub IsFilledBy : Frame → Value → Value → List ℕ → Type 0
IsFilledBy (Items done left) x v t = IsListBehind (done ++ x ∷ []) left v t
IsFilledBy (Entries done key left) x v t = IsRecordBehind (done ++ (key, x) ∷ []) left v t

-- a text that makes a value, and behind it one that makes another of that
abbrev pub Both : (Value → List ℕ → Type 0) → (Value → Value → List ℕ → Type 0) → Value → List ℕ → Type 0
Both First Then v t = (x : Value) × (a b : List ℕ) × First x a × Then x v b × (t ≡ a ++ b)

-- lists and records that stand in one another, the outermost first: a value makes the innermost, that the one around it, and so on
abbrev pub AreFilledBy : List Frame → Value → Value → List ℕ → Type 0
AreFilledBy [] x v t = IsWhole x v t
AreFilledBy (frame ∷ inner) x v t = Both (AreFilledBy inner x) (IsFilledBy frame) v t

-- what is to come behind a head
abbrev pub IsBehind : Head → Value → List ℕ → Type 0
IsBehind (head.Plain x) v t = IsWhole x v t
IsBehind (head.List count) v t = IsListBehind [] count v t
IsBehind (head.Record count) v t = IsRecordBehind [] count v t

-- and behind a step
abbrev pub IsNext : Step → Value → List ℕ → Type 0
IsNext (Whole x) v t = IsWhole x v t
IsNext (Waits frame) v t = Both IsValueOf (IsFilledBy frame) v t

-- what comes of a list that has these items, with so many left to come
abbrev pub IsListStep : List Value → ℕ → Step → Type 0
IsListStep done left (Whole x) = (left ≡ 0) × (x ≡ variant.List (map datum_of done))
IsListStep done left (Waits (Items items behind)) = (items ≡ done) × (behind + 1 ≡ left)
IsListStep done left (Waits (Entries entries key behind)) = ⊥

-- where such a text was to come, its front was read, and such another is to come: each of these makes with it one of those of the same
-- value, and each of those goes on so
pub record Steps (Such Then : Value → List ℕ → Type 0) (left later : Option (List ℕ)) (room rest : ℕ) : Type 0 where
  pub front : List ℕ
  pub consumed : Consumes left later front
  pub counted : room ≡ rest + length front
  pub makes : (v : Value) (t : List ℕ) → Then v t → Such v (front ++ t)
  pub goes : (v : Value) (t s more : List ℕ) → Such v t → t ++ s ≡ front ++ more → (u : List ℕ) × Then v u × (t ≡ front ++ u)

-- a value with its text
abbrev pub IsMade : (Value → List ℕ → Type 0) → Value × List ℕ → Type 0
IsMade Such made = Such made.0 made.1

abbrev pub text_of : Value × List ℕ → List ℕ
text_of made = made.1

-- what a call does that reads on: what is to come then is told of its answer
abbrev pub HasReadOn : {B : Type 0} (Such : Value → List ℕ → Type 0) (Then : B → Value → List ℕ → Type 0) (left later : Option (List ℕ)) (room rest before now : ℕ) → Result B (Failure Unread) → Type 0
HasReadOn Such Then left later room rest before now (Ok answer) = Steps Such (Then answer) left later room rest
HasReadOn Such Then left later room rest before now (Err failure) = Stopped (IsMade Such) text_of left room before now failure

pub record ReadsOn {B : Type 0} (Such : Value → List ℕ → Type 0) (Then : B → Value → List ℕ → Type 0) (left later : Option (List ℕ)) (room rest before now : ℕ) (result : Result B (Failure Unread)) : Type 0 where
  pub answered : HasReadOn Such Then left later room rest before now result
  pub took : (came : List ℕ) × Consumes left later came
  pub counted : before ≤ now
