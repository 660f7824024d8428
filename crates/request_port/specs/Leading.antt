-- What leads from a request's port to a later one.
use Rattle.std.specs.Prelude.{◌≡◌, ◌≤◌, ◌+◌, ℕ, true, false, List, [], Option, Some, None, ⊤}
use Rattle.std.specs.Arc.{arc_value}
use Rattle.std.specs.declared.sync.Arc.{Arc}
use Rattle.compiled_pages.specs.Made.{IsMade}
use Rattle.compiled_pages.specs.declared.made.Made.{Made}
use Rattle.source_tree.specs.declared.file.File.{File}
use Rattle.std.specs.List.{list_all}
use Rattle.page_answers.specs.Turns.{Turn, all_bytes, all_calls, are_whole_but_last, is_whole}
use Rattle.pass_course.specs.Course.{HasDone}
use Rattle.request_port.specs.declared.port.RequestPort.{RequestPort}
use Rattle.site_words.specs.Answers.{IsSamePort}
use Rattle.site_words.specs.Law.{Legal}
use Rattle.site_words.specs.Trees.{Needs}
use Rattle.site_words.specs.declared.words.Entry.{Entry}
use Rattle.site_words.specs.declared.words.Opening.{Opening}

-- what is kept of a page is made from its path of the tree
abbrev pub IsLast : {Z : Type 0} → List File → Option (List ℕ × Arc Made Z) → Type 0
IsLast tree None = ⊤
IsLast tree (Some found) = IsMade (arc_value found.1) tree found.0

-- the same request of the same port did these turns; it was read no more than they read, and
-- exactly that where memory never ran out while a page was found; where it did, nothing more was
-- done
pub record Leads {Q L H : Type 0} (needs : Needs) (pass : Q → ℕ) (opening : Q → Opening) (home : Q → H) (seen : Q → List Entry) (old new : RequestPort Q L) : Type 0 where
  pub port : new.port.ghost_name ≡ old.port.ghost_name
  pub steps : new.steps.ghost_name ≡ old.steps.ghost_name
  pub same : IsSamePort (pass old.port.now) (pass new.port.now) (opening old.port.now) (opening new.port.now) (home old.port.now) (home new.port.now)
  pub request : new.request ≡ old.request
  pub tree : new.tree.now ≡ old.tree.now
  pub turns : List Turn
  pub did : Legal needs (opening old.port.now) (seen old.port.now) → HasDone needs (opening old.port.now) (pass old.port.now) (seen old.port.now) (seen new.port.now) (all_calls old.request turns)
  pub read : new.steps.now ≤ old.steps.now + all_bytes old.tree.now turns
  pub last : IsLast old.tree.now old.last → IsLast new.tree.now new.last
  pub spent : old.starved ≡ true → turns ≡ []
  pub stops : are_whole_but_last turns ≡ true
  pub whole : new.starved ≡ false → (old.starved ≡ false) × (list_all is_whole turns ≡ true) × (new.steps.now ≡ old.steps.now + all_bytes old.tree.now turns)
