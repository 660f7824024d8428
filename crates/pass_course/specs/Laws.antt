-- Laws of what a pass did.
use Rattle.std.specs.Prelude.{◌≡◌, ℕ, true, List, [], ◌∷◌, ◌++◌}
use Rattle.edges.specs.declared.acted.Acted.{Acted}
use Rattle.edges.specs.declared.acted.Acted.TheVariants.{Did, Refused, NoMemory}
use Rattle.pass_course.specs.Course.{HasDone}
use Rattle.pass_course.specs.Under.{Under, is_under}
use Rattle.site_words.specs.Calls.{Calls}
use Rattle.site_words.specs.Trees.{Needs}
use Rattle.site_words.specs.declared.words.Entry.{Entry}
use Rattle.site_words.specs.declared.words.Op.{Op}
use Rattle.site_words.specs.declared.words.Opening.{Opening}
use Rattle.site_words.specs.declared.words.Refusal.{Refusal}
use Rattle.site_words.specs.declared.words.Reply.{Reply}
use Rattle.site_words.specs.declared.words.Run.{Run}
use Rattle.source_tree.specs.declared.file.File.{File}

-- what a call did: its operation with its reply, or nothing
abbrev pub called : Op → Acted Reply Refusal → List (Op × Reply)
called o (Did r) = (o, r) ∷ []
called o (Refused refusal) = []
called o NoMemory = []

-- a call is a course of one operation or of none
abbrev pub CallsAreCourses : Type 0
CallsAreCourses = (needs : Needs) (x : Opening) (pass : ℕ) (old new : List Entry) (o : Op) (acted : Acted Reply Refusal) → Calls needs x pass old new o acted → HasDone needs x pass old new (called o acted)

-- courses one after the other are one
abbrev pub CoursesJoin : Type 0
CoursesJoin = (needs : Needs) (x : Opening) (pass : ℕ) (old mid new : List Entry) (calls more : List (Op × Reply)) → HasDone needs x pass old mid calls → HasDone needs x pass mid new more → HasDone needs x pass old new (calls ++ more)

-- the test of the request under way says what is so
pub record UnderIsTested : Type 0 where
  pub holds : (x : Opening) (pass : ℕ) (seen : List Entry) (request : ℕ) (tree : List File) → is_under x pass seen request tree ≡ true → (run : Run) × Under x pass seen request tree run
  pub told : (x : Opening) (pass : ℕ) (seen : List Entry) (request : ℕ) (tree : List File) (run : Run) → Under x pass seen request tree run → is_under x pass seen request tree ≡ true
