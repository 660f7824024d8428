-- An expression along its left side.
use Rattle.std.specs.Prelude.{Bool, true, false, List, [], ◌∷◌}
use Rattle.el_reader.specs.declared.chain.Link.{Link}
use Rattle.el_reader.specs.declared.chain.Link.TheVariants as link
use Rattle.el_reader.specs.declared.el.El.{El}
use Rattle.el_reader.specs.El.{tree_of}
use Rattle.el_reader.specs.Tree as tree
use Rattle.el_reader.specs.Tree.{Tree}

-- the tree with one link behind it
abbrev pub linked : Tree → Link → Tree
linked left (link.Operation op right) = tree.binary op left (tree_of right.now)
linked left (link.Key key) = tree.index left (tree_of key.now)

-- the tree with these links behind it, one after another
abbrev pub chained : Tree → List Link → Tree
chained first [] = first
chained first (next ∷ links) = chained (linked first next) links

-- the tree has a link at its end
abbrev pub leans : Tree → Bool
leans (tree.binary op left right) = true
leans (tree.index left key) = true
leans _ = false

-- the expression of a link
abbrev pub right_of : Link → El
right_of (link.Operation op right) = right.now
right_of (link.Key key) = key.now
