-- The names that directives declare, as the program keeps them.
use Rattle.std.specs.Prelude.{◌≡◌, ℕ, List}
use Rattle.std.specs.Borrow.{Bor}
use Rattle.std.specs.BTreeSet.{BTreeSet, contains}
use Rattle.page_pieces.specs.Settings.{contains_text}
use Rattle.page_directives.specs.Directive.{Directive}
use Rattle.page_directives.specs.ReadKnown.{text_order}
use Rattle.tag_decl.specs.Faults.{declared_names}

-- the set has the names that these directives declare
abbrev pub HasNames : BTreeSet (Bor (List ℕ)) → List Directive → Type 0
HasNames names directives = (name : Bor (List ℕ)) → contains text_order names name ≡ contains_text name.now (declared_names directives)
