use Rattle.std.proofs.Common.{◌≡◌, take}
use Rattle.source_tree.proofs.edits.Edits.copy.Given as goal

abbrev pub invariant-loop-edit : goal.invariant-loop-edit
invariant-loop-edit l = l.items.items ≡ take l.edit-index l.edit-items
