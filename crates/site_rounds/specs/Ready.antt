-- Passes of a shared site between two connections.
use Rattle.std.specs.Prelude.{ℕ, List, map}
use Rattle.pass_course.specs.Course.{IsIdle}
use Rattle.site_words.specs.declared.words.Entry.{Entry}
use Rattle.site_words.specs.declared.words.Opening.{Opening}
use Rattle.turn_table.specs.Passes.{IsPassOf, Known, Origin}

-- a pass of these turns that has no request under way
abbrev pub IsReady : Origin Opening → Known Opening Entry → Type 0
IsReady turns pass = IsPassOf turns pass × IsIdle turns.opening pass.number pass.seen

-- the numbers of passes, in their order
abbrev pub numbers_of : List (Known Opening Entry) → List ℕ
numbers_of passes = map (λ (pass : Known Opening Entry). pass.number) passes
