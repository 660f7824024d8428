-- The page of a text as a function, for definitions that need the one page of a text: it is read piece by piece, with a stack of
-- the elements that are open. That this page is what the definition of pages says is proved.
use Rattle.std.specs.Prelude.{◌∷◌, ◌++◌, ◌-◌, ◌==◌, ◌&&◌, if◌then◌else◌, ℕ, zero, suc, Bool, false, List, [], Option, Some, None, Result, Ok, Err, nat_lt, length, take}
use Rattle.std.specs.Str.{bytes_eq}
use Rattle.pg_text.specs.declared.place.PageFault.{PageFault}
use Rattle.pg_text.specs.declared.translation_fault.TranslationFault.TheVariants as faults
use Rattle.page_pieces.specs.declared.setting.Setting.{Setting}
use Rattle.page_pieces.specs.declared.spot.Spot.{Spot}
use Rattle.page_pieces.specs.declared.piece.Leaf.{Leaf}
use Rattle.page_pieces.specs.declared.piece.Tag.{Tag}
use Rattle.page_pieces.specs.declared.piece.Piece.{Piece}
use Rattle.page_pieces.specs.declared.piece.Break.{Break}
use Rattle.page_reader.specs.declared.node.Closing.{Closing}
use Rattle.page_pieces.specs.declared.piece.Piece.TheVariants as pieces
use Rattle.page_pieces.specs.declared.piece.Leaf.TheVariants as leaves
use Rattle.page_pieces.specs.declared.piece.Break.TheVariants.{Fault, BadEnd}
use Rattle.page_reader.specs.declared.node.Closing.TheVariants as closings
use Rattle.page_pieces.specs.ReadEnd.{left_behind_name}
use Rattle.page_pieces.specs.ReadHead.{behind_white}
use Rattle.page_pieces.specs.Spots.{spot_after, place_in}
use Rattle.page_pieces.specs.Pieces.{Ahead}
use Rattle.page_reader.specs.Written.{Reached, Whole, Within, head_at}
use Rattle.page_pieces.specs.Settings.{setting_after}
use Rattle.page_reader.specs.Pages.{deepest, beginning, IsPage}
use Rattle.page_pieces.specs.ReadPiece.{piece_at}
use Rattle.page_reader.specs.Stops.{fault_at, end_stop}
use Rattle.page_reader.specs.Trees.{Opened, Tree, joined, text_before, Page, done, leaf, element}

-- an open element with a body of its own: the nodes before it, its tag and its place, and what follows its start
pub record Own : Type 0 where
  pub before : Tree
  pub tag : Tag
  pub spot : Spot
  pub body : List ℕ

-- an element that is open: with a body of its own, or, where no level is left, with its head among the nodes; of that one its prefix, its name and its place are known
pub data Level : Type 0 where
  own : Own → Level
  flat : (prefix name : List ℕ) → Spot → Level

-- template text that was read last: what it says so far, and where it begins
pub record Run : Type 0 where
  pub text : List ℕ
  pub spot : Spot

-- what is read so far: the open elements, the innermost first, the nodes in the innermost, and the template text behind them, to which more may come
pub record Reading : Type 0 where
  pub levels : List Level
  pub nodes : Tree
  pub run : Option Run

-- the template text before these nodes
abbrev pub run_before : List ℕ → Option Run → Tree → Tree
run_before file None next = next
run_before file (Some run) next = text_before run.text (place_in file run.spot) next

-- the nodes with the template text behind them
abbrev pub settled : List ℕ → Reading → Tree
settled file now = joined now.nodes (run_before file now.run done)

abbrev pub with_text : Option Run → List ℕ → Spot → Run
with_text None text spot = record { text = text; spot = spot }
with_text (Some run) text spot = record { text = run.text ++ text; spot = run.spot }

-- a node more, which is no text
abbrev pub with_node : List ℕ → Reading → Tree → Reading
with_node file now node = record { levels = now.levels; nodes = joined (settled file now) node; run = None }

abbrev pub leaf_nodes : List ℕ → Leaf → Spot → Reading → Tree
leaf_nodes file (leaves.Text text) spot now = now.nodes
leaf_nodes file kind spot now = joined (settled file now) (leaf kind (place_in file spot) done)

abbrev pub leaf_run : Leaf → Spot → Option Run → Option Run
leaf_run (leaves.Text text) spot run = Some (with_text run text spot)
leaf_run kind spot run = None

-- a piece that holds no others: text joins the text before it, and others are a node more
abbrev pub entered_leaf : List ℕ → Leaf → Spot → Reading → Reading
entered_leaf file kind spot now = record { levels = now.levels; nodes = leaf_nodes file kind spot now; run = leaf_run kind spot now.run }

-- the head of an element as a node
abbrev pub head_alone : List ℕ → Tag → Spot → Closing → Tree
head_alone file tag spot closing = element (head_at file tag spot closing) done done

abbrev pub with_own : List ℕ → Tag → Spot → List ℕ → Reading → Reading
with_own file tag spot rest now = record {
  levels = own (record { before = settled file now; tag = tag; spot = spot; body = rest }) ∷ now.levels;
  nodes = done;
  run = None;
}

abbrev pub with_flat : List ℕ → Tag → Spot → Reading → Reading
with_flat file tag spot now = record {
  levels = flat tag.prefix tag.name spot ∷ now.levels;
  nodes = joined (settled file now) (head_alone file tag spot closings.Open);
  run = None;
}

-- an element is opened, with a body of its own where a level is left
abbrev pub entered_start : List ℕ → Tag → Spot → List ℕ → Reading → Reading
entered_start file tag spot rest now = if nat_lt (length now.levels) deepest then with_own file tag spot rest now else with_flat file tag spot now

-- what is open within an open element
abbrev pub open_in : Level → Reached
open_in (own level) = Within level.tag.prefix level.tag.name level.spot
open_in (flat prefix name spot) = Within prefix name spot

-- where an open element begins
abbrev pub spot_of : Level → Spot
spot_of (own level) = level.spot
spot_of (flat prefix name spot) = spot

-- what is open behind what is read
abbrev pub open_behind : List Level → Reached
open_behind [] = Whole
open_behind (level ∷ levels) = open_in level

-- whether an element with that name is open, and is the innermost
abbrev pub is_named : Reached → List ℕ → List ℕ → Bool
is_named Whole prefix name = false
is_named (Within outer_prefix outer_name spot) prefix name = bytes_eq outer_prefix prefix && bytes_eq outer_name name

-- an element whose body ends where this text is left
abbrev pub opened_by : List ℕ → Own → Closing → List ℕ → Opened
opened_by file level closing rest = record { tag = level.tag; closing = closing; source = take (length level.body - length rest) level.body; place = place_in file level.spot }

-- the nodes within an open element, put into it, behind the nodes before it
abbrev pub closed_own : List ℕ → Own → Closing → List ℕ → Tree → Tree
closed_own file level closing rest nodes = joined level.before (element (opened_by file level closing rest) nodes done)

-- the nodes behind an element whose body has these nodes: they are among them already where the element has no body of its own
abbrev pub closed_level : List ℕ → Level → Closing → List ℕ → Tree → Tree
closed_level file (own level) closing rest nodes = closed_own file level closing rest nodes
closed_level file (flat prefix name spot) closing rest nodes = nodes

-- the nodes with all the elements that are open
abbrev pub closed : List ℕ → List Level → List ℕ → Tree → Tree
closed file [] rest nodes = nodes
closed file (level ∷ levels) rest nodes = closed file levels rest (closed_level file level closings.Open rest nodes)

-- the innermost element ends, where it has that name
abbrev pub ended_in : List ℕ → List ℕ → List ℕ → List ℕ → List Level → Tree → Option Reading
ended_in file prefix name text [] nodes = None
ended_in file prefix name text (level ∷ levels) nodes =
    if is_named (open_in level) prefix name then Some (record { levels = levels; nodes = closed_level file level closings.Ended text nodes; run = None }) else None

-- what a piece makes of what is read so far, or nothing where it is a wrong end; `spot` is where it begins, `text` what begins with it, and `rest` what follows it
abbrev pub entered : List ℕ → Piece → Spot → List ℕ → List ℕ → Reading → Option Reading
entered file (pieces.Leaf kind) spot text rest now = Some (entered_leaf file kind spot now)
entered file (pieces.Start tag) spot text rest now = Some (entered_start file tag spot rest now)
entered file (pieces.Empty tag) spot text rest now = Some (with_node file now (head_alone file tag spot closings.Empty))
entered file (pieces.End prefix name) spot text rest now = ended_in file prefix name text now.levels (settled file now)

-- whether nothing but white space is left
abbrev pub none_left : Option (List ℕ) → Bool
none_left None = false
none_left (Some rest) = length (behind_white rest) == 0

-- whether the text would be the end of that element with more bytes behind it
abbrev pub could_end : List ℕ → List ℕ → List ℕ → Bool
could_end prefix name text = none_left (left_behind_name prefix name text)

-- the same of an open element
abbrev pub could_end_in : Level → List ℕ → Bool
could_end_in (own level) text = could_end level.tag.prefix level.tag.name text
could_end_in (flat prefix name spot) text = could_end prefix name text

-- the fault of a bad end
abbrev pub end_break : List ℕ → List ℕ → Spot → Reached → Option PageFault
end_break file text spot Whole = fault_at file faults.WrongEnd spot
end_break file text spot (Within prefix name outer) = if could_end prefix name text then fault_at file faults.Unclosed outer else fault_at file faults.WrongEnd spot

-- the fault of a break in this text
abbrev pub break_stop : List ℕ → List ℕ → Break → Reached → Option PageFault
break_stop file text (Fault fault spot) reached = fault_at file fault spot
break_stop file text (BadEnd spot) reached = end_break file text spot reached

-- the page where the reading ends with this rest
abbrev pub page_with : List ℕ → List ℕ → Reading → Option PageFault → Page
page_with file rest now stop = record { nodes = closed file now.levels rest (settled file now); stop = stop }

-- what is ahead behind a piece that leaves this rest
abbrev pub ahead_behind : Ahead → Piece → List ℕ → Ahead
ahead_behind ahead piece rest = record {
  setting = setting_after ahead.setting ahead.spot.byte piece;
  spot = spot_after ahead.spot (take (length ahead.text - length rest) ahead.text);
  text = rest;
}

-- behind a piece: what it made of what was read, or the fault that it is a wrong end
abbrev pub page_then : List ℕ → Ahead → Reading → Option Reading → Ahead → (Reading → Ahead → Page) → Page
page_then file ahead old None next more = page_with file ahead.text old (fault_at file faults.WrongEnd ahead.spot)
page_then file ahead old (Some now) next more = more now next

-- by what stands first: a piece, and then what is behind it, which is shorter, or a break
abbrev pub page_by : List ℕ → Ahead → Reading → Result (Piece × List ℕ) Break → (Reading → Ahead → Page) → Page
page_by file ahead now (Err fault) more = page_with file ahead.text now (break_stop file ahead.text fault (open_behind now.levels))
page_by file ahead now (Ok found) more =
    if nat_lt (length found.1) (length ahead.text)
    then page_then file ahead now (entered file found.0 ahead.spot ahead.text found.1 now) (ahead_behind ahead found.0 found.1) more
    else page_with file ahead.text now None

abbrev pub page_ahead : List ℕ → Ahead → Reading → List ℕ → (Reading → Ahead → Page) → Page
page_ahead file ahead now [] more = page_with file [] now (end_stop file (open_behind now.levels))
page_ahead file ahead now (b ∷ bytes) more = page_by file ahead now (piece_at ahead.setting file ahead.spot ahead.text) more

-- the page behind what is read, at most so many pieces
unfoldable pub page_within : ℕ → List ℕ → Reading → Ahead → Page
page_within zero file now ahead = page_ahead file ahead now ahead.text (λ now ahead. page_with file ahead.text now None)
page_within (suc most) file now ahead = page_ahead file ahead now ahead.text (page_within most file)

-- the page behind what is read
unfoldable pub page_from : List ℕ → Reading → Ahead → Page
page_from file now ahead = page_within (length ahead.text) file now ahead

-- nothing is read
abbrev pub unread : Reading
unread = record { levels = []; nodes = done; run = None }

-- the page of a text
abbrev pub page_text : Setting → (file text : List ℕ) → Page
page_text setting file text = page_from file unread (beginning setting text)

-- that page is what the text reads as
abbrev pub HasPageText : Type 0
HasPageText = (setting : Setting) (file text : List ℕ) → IsPage setting file text (page_text setting file text)
