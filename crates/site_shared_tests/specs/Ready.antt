-- Passes of a shared site between two requests.
use Rattle.std.specs.Prelude.{◌≡◌, ℕ, ◌<◌, List, length, slice_index_or}
use Rattle.site_words.specs.declared.words.Entry.{Entry}
use Rattle.site_words.specs.declared.words.Opening.{Opening}
use Rattle.pass_course.specs.Course.{IsIdle}
use Rattle.turn_table.specs.Passes.{IsPassOf, Known, Origin}

-- a pass of these turns that has no request under way
abbrev pub IsReady : Origin Opening → Known Opening Entry → Type 0
IsReady turns pass = IsPassOf turns pass × IsIdle turns.opening pass.number pass.seen

-- each pass stands at the place of its number
abbrev pub AreInPlace : List (Known Opening Entry) → Type 0
AreInPlace passes = (k : ℕ) (other : Known Opening Entry) → k < length passes → (slice_index_or passes k other).number ≡ k
