-- The nodes of a page or a tag file with its static includes in place, each break among them.
use Rattle.std.specs.Prelude.{Bool, true, false, ◌==◌, List, [], ◌∷◌, ◌++◌, codes, Option, Some, None, if◌then◌else◌}
use Rattle.std.specs.List.{list_all}
use Rattle.std.specs.Str.{bytes_eq}
use Rattle.pg_text.specs.declared.place.Place.{Place}
use Rattle.pg_text.specs.declared.place.PageFault.{PageFault}
use Rattle.page_pieces.specs.declared.piece.Leaf.{Leaf}
use Rattle.page_pieces.specs.declared.piece.Leaf.TheVariants as leaves
use Rattle.page_pieces.specs.Names.{is_white}
use Rattle.page_reader.specs.declared.node.Closing.{Closing}
use Rattle.page_reader.specs.declared.node.Closing.TheVariants as closings
use Rattle.page_reader.specs.Trees.{Tree, Opened, joined}
use Rattle.page_reader.specs.Trees as tree
use Rattle.page_directives.specs.Directive.{Directive}
use Rattle.unit_source.specs.declared.entry.Entry.{Entry}
use Rattle.unit_source.specs.declared.entry.Entry.TheVariants.{Unnamed}
use Rattle.unit_source.specs.First.{directive}

pub data InPlace : Type 0 where
  done : InPlace
  leaf : Leaf → Place → InPlace → InPlace
  element : Opened → InPlace → InPlace → InPlace
  -- the reading of a file breaks off
  broken : PageFault → InPlace → InPlace
  -- an include directive, what it comes to, and the nodes of its file
  included : Directive → Entry → InPlace → InPlace → InPlace

-- nodes, and then others
abbrev pub followed : InPlace → InPlace → InPlace
followed done others = others
followed (leaf kind place next) others = leaf kind place (followed next others)
followed (element opened body next) others = element opened body (followed next others)
followed (broken fault next) others = broken fault (followed next others)
followed (included d entry body next) others = included d entry body (followed next others)

-- the plain nodes
abbrev pub flat : InPlace → Tree
flat done = tree.done
flat (leaf kind place next) = tree.leaf kind place (flat next)
flat (element opened body next) = tree.element opened (flat body) (flat next)
flat (broken fault next) = flat next
flat (included d entry body next) = joined (flat body) (flat next)

-- the directives in reading order
abbrev pub all_directives : InPlace → List Directive
all_directives done = []
all_directives (leaf (leaves.Directive name attributes) place next) = directive name attributes place ∷ all_directives next
all_directives (leaf kind place next) = all_directives next
all_directives (element opened body next) = all_directives body ++ all_directives next
all_directives (broken fault next) = all_directives next
all_directives (included d entry body next) = d ∷ all_directives body ++ all_directives next

-- a leaf as nodes in place, before others: an include directive stands there as one that names no file
abbrev pub leaf_placed : Leaf → Place → InPlace → InPlace
leaf_placed (leaves.Directive name attributes) place next =
    if bytes_eq name (codes "include") then included (directive name attributes place) Unnamed done next else leaf (leaves.Directive name attributes) place next
leaf_placed kind place next = leaf kind place next

-- a tree as nodes in place, before its include directives are read
abbrev pub placed : Tree → InPlace
placed tree.done = done
placed (tree.leaf kind place next) = leaf_placed kind place (placed next)
placed (tree.element opened body next) = element opened (placed body) (placed next)

abbrev pub is_open : Closing → Bool
is_open closings.Open = true
is_open _ = false

-- a break at an open element stands before it, and another one in it, behind its nodes; at an element that isn't open it stands behind that
abbrev pub broken_at : PageFault → Opened → (body broken_body : InPlace) → InPlace
broken_at fault opened body broken_body =
    if is_open opened.closing
    then (if opened.place.byte == fault.place.byte then broken fault (element opened body done) else element opened broken_body done)
    else element opened body (broken fault done)

-- a break stands before the open element that it is of, and else behind all nodes
abbrev pub with_fault : PageFault → InPlace → InPlace
with_fault fault done = broken fault done
with_fault fault (leaf kind place next) = leaf kind place (with_fault fault next)
with_fault fault (element opened body done) = broken_at fault opened body (with_fault fault body)
with_fault fault (element opened body next) = element opened body (with_fault fault next)
with_fault fault (broken other next) = broken other (with_fault fault next)
with_fault fault (included d entry body next) = included d entry body (with_fault fault next)

abbrev pub with_stop : Option PageFault → InPlace → InPlace
with_stop None nodes = nodes
with_stop (Some fault) nodes = with_fault fault nodes

-- template text that is white space alone
abbrev pub is_white_text : Leaf → Bool
is_white_text (leaves.Text text) = list_all is_white text
is_white_text _ = false

-- the nodes without template text that is white space alone
abbrev pub without_white : Tree → Tree
without_white tree.done = tree.done
without_white (tree.leaf kind place next) = if is_white_text kind then without_white next else tree.leaf kind place (without_white next)
without_white (tree.element opened body next) = tree.element opened (without_white body) (without_white next)

-- the same, unless the file holds nothing else
abbrev pub trimmed : (trim : Bool) → Tree → Tree
trimmed false nodes = nodes
trimmed true (tree.leaf kind place tree.done) = tree.leaf kind place tree.done
trimmed true nodes = without_white nodes
