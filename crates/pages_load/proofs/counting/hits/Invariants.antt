use Rattle.std.proofs.Common.{◌≡◌, ◌≤◌, ◌+◌, drop}
use Rattle.pages_load.specs.Load.{count, is_hit}
use Rattle.pages_load.proofs.counting.hits.Given as goal

-- such entries so far, and those from here on
abbrev pub invariant-loop-place : goal.invariant-loop-place
invariant-loop-place l = record { counted : count is_hit l.history.items ≡ l.count + count is_hit (drop l.place l.history.items); few : l.count ≤ l.place }
