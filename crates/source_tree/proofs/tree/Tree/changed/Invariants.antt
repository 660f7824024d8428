use Rattle.std.proofs.Common.{◌≡◌, drop}
use Rattle.source_tree.specs.Changed.{changed, changed_from}
use Rattle.source_tree.proofs.tree.Tree.changed.Given as goal

-- the edits that are left make of the names so far what all make of none
abbrev pub invariant-loop-edit : goal.invariant-loop-edit
invariant-loop-edit l = changed_from l.self l.names (drop l.edit-index l.edits) ≡ changed l.edits l.self
