-- What a call does that reads the part of a journal that stands next in a source.
use Rattle.std.specs.Prelude.{◌≡◌, ◌<◌, ◌≤◌, ℕ, ◌+◌, List, ◌++◌, length, Option, Result, Ok, Err, IfSome, ⊤}
use Rattle.std.specs.Io.KnownBytes.{Consumes}
use Rattle.edges.specs.Faults.{Rose}
use Rattle.journal_reader.specs.declared.unread.Unread.{Unread}
use Rattle.journal_reader.specs.declared.unread.Unread.TheVariants.{Failed, NotThere, TooLong}
use Rattle.pg_text.specs.declared.failure.Failure.{Failure}
use Rattle.pg_text.specs.declared.failure.Failure.TheVariants.{Fault, NoMemory}
use Rattle.site_words.specs.Trees.{Each}

-- that many items, each of which is such
abbrev pub AreSo : {A : Type 0} → ℕ → (A → Type 0) → List A → Type 0
AreSo n Is xs = (length xs ≡ n) × Each Is xs

-- what was read is kept where it is such, and the answer says whether; seen is how the kept thing is seen as what was read
abbrev pub Sorts : {A B : Type 0} → (B → A) → (A → Type 0) → A → Result B (Failure Unread) → Type 0
Sorts seen Such x (Ok y) = (seen y ≡ x) × Such x
Sorts seen Such x (Err (Fault NotThere)) = Such x → ⊥
Sorts seen Such x (Err (Fault TooLong)) = ⊥
Sorts seen Such x (Err (Fault Failed)) = ⊥
Sorts seen Such x (Err NoMemory) = ⊤

-- of a kind of parts: which there are, and the bytes of each
module _ {A : Type 0} (Is : A → Type 0) (of : A → List ℕ) where
  -- each part that these bytes begin with is such
  abbrev pub BeginOnlyWith : (A → Type 0) → List ℕ → Type 0
  BeginOnlyWith Such bytes = (x : A) (s : List ℕ) → Is x → bytes ≡ of x ++ s → Such x

  -- the part was read, and the bytes begin with no other: they are what the source had and has left, the numbers how many more may be read
  pub record HasRead (left later : Option (List ℕ)) (room rest : ℕ) (x : A) : Type 0 where
    pub is : Is x
    pub consumed : Consumes left later (of x)
    pub counted : room ≡ rest + length (of x)
    pub only : IfSome left (BeginOnlyWith (λ y. y ≡ x))

  -- there are more bytes than may be read, and those begin with no part
  abbrev pub AreBeyond : ℕ → List ℕ → Type 0
  AreBeyond room bytes = (room < length bytes) × BeginOnlyWith (λ y. room < length (of y)) bytes

  -- why no part was read; before and now are the source's counts of faults
  abbrev pub Stopped : (left : Option (List ℕ)) → (room before now : ℕ) → Failure Unread → Type 0
  Stopped left room before now (Fault NotThere) = IfSome left (BeginOnlyWith (λ y. ⊥))
  Stopped left room before now (Fault TooLong) = IfSome left (AreBeyond room)
  Stopped left room before now (Fault Failed) = Rose before now
  Stopped left room before now NoMemory = ⊤

  abbrev pub Answered : (left later : Option (List ℕ)) → (room rest before now : ℕ) → Result A (Failure Unread) → Type 0
  Answered left later room rest before now (Ok x) = HasRead left later room rest x
  Answered left later room rest before now (Err failure) = Stopped left room before now failure

  -- the part that stands next was read, or none was
  pub record Reads (left later : Option (List ℕ)) (room rest before now : ℕ) (result : Result A (Failure Unread)) : Type 0 where
    pub answered : Answered left later room rest before now result
    pub took : (came : List ℕ) × Consumes left later came
    pub counted : before ≤ now
