-- The trees that requests began with.
use Rattle.std.specs.Prelude.{◌≡◌, ℕ, Bool, true, false, List, [], ◌∷◌, set, Option, Some, None, ⊤}
use Rattle.std.specs.Arc.{arc_value}
use Rattle.std.specs.declared.sync.Arc.{Arc}
use Rattle.site_state.specs.declared.gift.Gift.{Gift}
use Rattle.site_state.specs.declared.gift.Gift.TheVariants.{Start}
use Rattle.site_words.specs.Runs.{UnderWay}
use Rattle.site_words.specs.declared.words.Op.{Op}
use Rattle.site_words.specs.declared.words.Op.TheVariants as op
use Rattle.source_tree.specs.Limits.{IsWithinLimits}
use Rattle.source_tree.specs.declared.file.File.{File}

abbrev pub tree_in_base : {Z : Type 0} → Option (Arc (List File) Z) → Option (List File)
tree_in_base None = None
tree_in_base (Some tree) = Some (arc_value tree)

-- a request's tree is kept, and keeps its limits
abbrev pub IsBase : Option UnderWay → Option (List File) → Type 0
IsBase None base = ⊤
IsBase (Some under) base = (base ≡ Some under.tree) × IsWithinLimits under.tree

-- of each pass the tree of the request under way is kept
abbrev pub AreBases : List (Option UnderWay) → List (Option (List File)) → Type 0
AreBases [] [] = ⊤
AreBases (under ∷ runs) (base ∷ bases) = IsBase under base × AreBases runs bases
AreBases runs bases = ⊥

-- a request begins by the operation
abbrev pub is_begin : Op → Bool
is_begin (op.Begin cookie moment) = true
is_begin other = false

-- the tree that is given with the reply to a Begin
abbrev pub base_in : {P : Type 0} → Gift P → Option (List File)
base_in (Start tree attrs) = Some (arc_value tree)
base_in other = None

-- the trees once a request has begun, where one did and was given its tree
abbrev pub bases_with : Bool → Option (List File) → ℕ → List (Option (List File)) → List (Option (List File))
bases_with false base pass bases = bases
bases_with true None pass bases = bases
bases_with true (Some tree) pass bases = set bases pass (Some tree)
