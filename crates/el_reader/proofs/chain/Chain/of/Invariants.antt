use Rattle.std.proofs.Common.{◌≡◌, ◌≤◌, ◌<◌, reverse}
use Rattle.std.specs.List.{All}
use Rattle.el_reader.specs.Chain.{chained, right_of}
use Rattle.el_reader.specs.El.{tree_of}
use Rattle.el_reader.specs.declared.el.El.{size-El}
use Rattle.el_reader.proofs.chain.Chain.of.Given as goal

-- what is left, with the links so far behind it, is the whole
abbrev pub invariant-loop-first : goal.invariant-loop-first
invariant-loop-first l = record {
  whole : chained (tree_of l.first) (reverse l.links.items) ≡ tree_of l.el;
  depth : size-El l.first ≤ size-El l.el;
  depths : All (λ link. size-El (right_of link) < size-El l.el) l.links.items;
}
