use Rattle.std.proofs.Common.{◌≡◌, drop}
use Rattle.pg_text.specs.Order.{AreRising}
use Rattle.dep_graph.specs.Deps.{all_unlisted, name_of}
use Rattle.dep_graph.proofs.index.remove_all.Given as goal

-- the names that are left make of the index so far what all make of that at first
abbrev pub invariant-loop-name : goal.invariant-loop-name
invariant-loop-name l = record {
  left : all_unlisted l.path (drop l.name-index l.names) l.index.items ≡ all_unlisted l.path l.names l.fn.index.items;
  order : AreRising name_of l.index.items;
}
