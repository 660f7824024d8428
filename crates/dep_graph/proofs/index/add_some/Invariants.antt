use Rattle.std.proofs.Common.{◌≡◌, take}
use Rattle.pg_text.specs.Order.{AreRising}
use Rattle.dep_graph.specs.Deps.{all_indexed, name_of}
use Rattle.dep_graph.proofs.index.add_some.Given as goal

-- the path needs the names before this one
abbrev pub invariant-loop-at : goal.invariant-loop-at
invariant-loop-at l = record {
  so_far : l.index.items ≡ all_indexed l.path (take l.at l.names) l.fn.index.items;
  order : AreRising name_of l.index.items;
}
