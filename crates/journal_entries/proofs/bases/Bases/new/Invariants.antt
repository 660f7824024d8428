use Rattle.std.proofs.Common.{◌≡◌, map, replicate, None}
use Rattle.journal_entries.specs.Bases.{tree_in_base}
use Rattle.journal_entries.proofs.bases.Bases.new.Given as goal

-- so many passes have none
abbrev pub invariant-loop-pass : goal.invariant-loop-pass
invariant-loop-pass l = map tree_in_base l.trees.items ≡ replicate l._pass None
