-- The stack of the code as lists and trees. No public contract speaks of it.
use Rattle.std.specs.Prelude.{◌≡◌, ◌≤◌, ◌-◌, ◌∷◌, ℕ, List, [], Option, Some, None, length, drop}
use Rattle.page_reader.specs.declared.level.Own.{Own as KeptOwn}
use Rattle.page_reader.specs.declared.level.Level.{Level as Kept}
use Rattle.page_reader.specs.declared.level.Level.TheVariants as kept
use Rattle.page_reader.specs.declared.run.Run.{Run as KeptRun}
use Rattle.page_reader.specs.declared.stack.Stack.{Stack}
use Rattle.page_reader.specs.declared.stack.Entry.{Entry}
use Rattle.page_reader.specs.declared.stack.Entry.TheVariants.{In, WrongEnd}
use Rattle.page_reader.specs.PageText.{Own, Level, own, flat, Run, Reading}
use Rattle.page_reader.specs.Trees.{trees_of}

abbrev pub own_of : KeptOwn → Own
own_of level = record { before = trees_of level.before.items; tag = level.tag; spot = level.spot; body = level.body.now }

abbrev pub level_of : Kept → Level
level_of (kept.Own level) = own (own_of level)
level_of (kept.Flat level) = flat level.prefix level.name level.spot

abbrev pub levels_onto : List Kept → List Level → List Level
levels_onto [] levels = levels
levels_onto (one ∷ more) levels = levels_onto more (level_of one ∷ levels)

-- the innermost first
abbrev pub levels_of : List Kept → List Level
levels_of kept = levels_onto kept []

abbrev pub run_of : Option KeptRun → Option Run
run_of None = None
run_of (Some run) = Some (record { text = run.text; spot = run.spot })

-- what is read so far
abbrev pub reading_of : Stack → Reading
reading_of stack = record { levels = levels_of stack.levels.items; nodes = trees_of stack.nodes.items; run = run_of stack.run }

-- the text is the end of the other
pub record IsEndOf (rest text : List ℕ) : Type 0 where
  pub fits : length rest ≤ length text
  pub is : rest ≡ drop (length text - length rest) text

-- the text is the end of what follows the start of an open element
abbrev pub EndsIn : List ℕ → Level → Type 0
EndsIn rest (own level) = IsEndOf rest level.body
EndsIn rest (flat prefix name spot) = Unit {0}

abbrev pub AreOpen : List ℕ → List Level → Type 0
AreOpen rest [] = Unit {0}
AreOpen rest (level ∷ levels) = EndsIn rest level × AreOpen rest levels

-- the innermost open element
abbrev pub innermost : List Level → Option Level
innermost [] = None
innermost (level ∷ levels) = Some level

-- what is read, by what a piece was
abbrev pub now_read : Stack → Entry → Option Reading
now_read stack In = Some (reading_of stack)
now_read stack WrongEnd = None

-- a wrong end changes nothing
abbrev pub Stays : Stack → Stack → Entry → Type 0
Stays old new In = Unit {0}
Stays old new WrongEnd = reading_of new ≡ reading_of old
