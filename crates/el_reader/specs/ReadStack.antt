-- What the parser holds, as parts, constructs and a stack of them.
use Rattle.std.specs.Prelude.{ℕ, List, map, reverse, Option, Some, None}
use Rattle.el_reader.specs.ReadClimb as climb
use Rattle.el_reader.specs.ReadClimb.{Frame, State, wants, has, Next}
use Rattle.el_reader.specs.El.{tree_of, pair_of}
use Rattle.el_reader.specs.Tree.{Tree}
use Rattle.el_reader.specs.declared.open.Open.{Open}
use Rattle.el_reader.specs.declared.open.Open.TheVariants as variant
use Rattle.el_reader.specs.declared.step.Step.{Step}
use Rattle.el_reader.specs.declared.part.Part.{Part}
use Rattle.el_reader.specs.declared.part.Parts.{Parts}
use Rattle.el_reader.specs.declared.part.Entries.{Entries}

abbrev pub part_of : Part → Tree × ℕ
part_of p = (tree_of p.tree, p.nesting)

abbrev pub parts_of : Parts → List Tree × ℕ
parts_of p = (map tree_of p.trees.items, p.nesting)

abbrev pub entries_of : Entries → List (Tree × Tree) × ℕ
entries_of e = (map pair_of e.pairs.items, e.nesting)

abbrev pub frame_of : Open → Frame
frame_of (variant.Operator op left) = climb.operator op (part_of left)
frame_of (variant.Prefix op) = climb.prefix op
frame_of variant.Group = climb.group
frame_of (variant.Arguments prefix name args) = climb.arguments prefix name (parts_of args).0 (parts_of args).1
frame_of (variant.Items items) = climb.items (parts_of items).0 (parts_of items).1
frame_of (variant.Key entries) = climb.key (entries_of entries).0 (entries_of entries).1
frame_of (variant.Value entries key) = climb.value (entries_of entries).0 (part_of key) (entries_of entries).1
frame_of (variant.Property value) = climb.property (part_of value)
frame_of (variant.Condition condition) = climb.condition (part_of condition)
frame_of (variant.Alternative condition one) = climb.alternative (part_of condition) (part_of one)

-- the innermost first
abbrev pub frames_of : List Open → List Frame
frames_of opens = map frame_of (reverse opens)

-- whether a part was read, or is wanted
abbrev pub state_of : Option Part → State
state_of None = wants
state_of (Some p) = has (part_of p)

-- what a token does to the stack, with the stack that it leaves
abbrev pub outcome_of : List Open → Option Step → Next
outcome_of opens None = None
outcome_of opens (Some step) = Some (step.passed, frames_of opens, state_of step.part)
