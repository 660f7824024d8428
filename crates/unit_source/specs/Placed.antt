-- The nodes in place and the root that the program has, without where they lie in memory.
use Rattle.std.specs.Prelude.{List, [], ◌∷◌}
use Rattle.page_reader.specs.declared.node.Element.{Element}
use Rattle.page_reader.specs.Trees.{Opened}
use Rattle.unit_source.specs.declared.placed.PlacedNode.{PlacedNode, Leaf, Element', Broken, Included', Row_of-PlacedNode, end_of-PlacedNode, more_of-PlacedNode}
use Rattle.unit_source.specs.declared.root.Root.{Root as Kept}
use Rattle.unit_source.specs.InPlace.{InPlace, done, leaf, element, broken, included, all_directives, followed}
use Rattle.unit_source.specs.Root.{Root}

-- the head of an element
abbrev pub head_of : Element → Opened
head_of head = record {
  tag = record { prefix = head.prefix; name = head.name; attributes = head.attributes };
  closing = head.closing;
  source = head.source;
  place = head.place;
}

abbrev mutual
  -- what a node is
  pub node_in_place : PlacedNode → InPlace
  node_in_place (Leaf kind place) = leaf kind place done
  node_in_place (Element' head shape body) = element (head_of head) (row_in_place body) done
  node_in_place (Broken fault) = broken fault done
  node_in_place (Included' directive entry shape body) = included directive entry (row_in_place body) done

  pub row_in_place : {m : _} → Row_of-PlacedNode m → InPlace
  row_in_place end_of-PlacedNode = done
  row_in_place (more_of-PlacedNode node rest) = followed (node_in_place node) (row_in_place rest)

-- nodes, one after the other
abbrev pub in_place : List PlacedNode → InPlace
in_place [] = done
in_place (node ∷ nodes) = followed (node_in_place node) (in_place nodes)

-- a page or a tag file as it was read
abbrev pub root_view : Kept → Root
root_view root = record {
  path = root.path;
  in_tag = root.in_tag;
  bytes = root.bytes;
  first = root.first;
  settings = root.settings;
  nodes = in_place root.nodes.items;
  directives = all_directives (in_place root.nodes.items);
  names = root.names;
}
