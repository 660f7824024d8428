-- Nodes put in place, as the program does it. No public contract speaks of it.
use Rattle.std.specs.Prelude.{Bool, true, false}
use Rattle.page_reader.specs.Trees.{Tree, done, leaf}
use Rattle.unit_source.specs.InPlace.{without_white}

-- the nodes without white space alone, where that is trimmed
abbrev pub blanked : (trims : Bool) → Tree → Tree
blanked false nodes = nodes
blanked true nodes = without_white nodes

-- nodes are one that holds no others
abbrev pub is_one_leaf : Tree → Bool
is_one_leaf (leaf kind place done) = true
is_one_leaf _ = false
