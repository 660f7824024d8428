-- The pieces of a page: each is the first row of the table of marks that stands at its place.
use Rattle.std.specs.Prelude.{◌≡◌, ◌≢◌, ◌++◌, ◌∷◌, ℕ, Bool, true, false, List, [], Option, Some, None, take, drop, codes}
use Rattle.page_pieces.specs.declared.setting.Setting.{Setting}
use Rattle.page_pieces.specs.declared.attribute.Attribute.{Attribute}
use Rattle.page_pieces.specs.declared.mark.Mark.{Mark}
use Rattle.page_pieces.specs.declared.spot.Spot.{Spot}
use Rattle.page_pieces.specs.declared.piece.Tag.{Tag}
use Rattle.page_pieces.specs.declared.piece.Piece.{Piece}
use Rattle.page_pieces.specs.declared.piece.Piece.TheVariants as pieces
use Rattle.page_pieces.specs.declared.piece.Leaf.TheVariants as leaves
use Rattle.page_pieces.specs.declared.mark.Mark.TheVariants as marks
use Rattle.page_pieces.specs.Spots.{spot_after}
use Rattle.page_pieces.specs.Settings.{setting_after}
use Rattle.page_pieces.specs.Marks.{mark_at}
use Rattle.page_pieces.specs.Tags.{AreAttributes, WrittenHead, head_bytes, IsHead, OpensDirective, ClosesDirective, OpensElement, ClosesElement, WrittenEnd, end_bytes, IsEnd}
use Rattle.page_pieces.specs.Expressions.{EndsBehind}
use Rattle.page_pieces.specs.Texts.{around, len_before}

-- a piece as it is written: what it is, its bytes, and where it begins
pub record WrittenPiece : Type 0 where
  pub piece : Piece
  pub bytes : List ℕ
  pub spot : Spot

-- how many bytes at the front are template text: as many as no mark begins at
abbrev pub text_len : Setting → List ℕ → ℕ
text_len setting text = len_before (mark_at setting) text

-- a directive with its attributes stands at the front of a text, and this rest follows
pub record IsDirectiveAt (setting : Setting) (file : List ℕ) (spot : Spot) (text : List ℕ) (piece : Piece) (rest : List ℕ) : Type 0 where
  pub head : WrittenHead
  pub name : List ℕ
  pub is : IsHead (OpensDirective name) ClosesDirective head
  pub cut : text ≡ head_bytes head ++ rest
  pub attributes : List Attribute
  pub reads : AreAttributes setting file (spot_after spot head.opening) head.attributes attributes
  pub piece_is : piece ≡ pieces.Leaf (leaves.Directive name attributes)

abbrev pub tag_piece : Bool → Tag → Piece
tag_piece true tag = pieces.Empty tag
tag_piece false tag = pieces.Start tag

-- the start of an element with its attributes
pub record IsStartAt (setting : Setting) (file : List ℕ) (spot : Spot) (text : List ℕ) (piece : Piece) (rest : List ℕ) : Type 0 where
  pub head : WrittenHead
  pub prefix : List ℕ
  pub name : List ℕ
  pub empty : Bool
  pub is : IsHead (OpensElement prefix name) (ClosesElement empty) head
  pub cut : text ≡ head_bytes head ++ rest
  pub attributes : List Attribute
  pub reads : AreAttributes setting file (spot_after spot head.opening) head.attributes attributes
  pub piece_is : piece ≡ tag_piece empty (record { prefix = prefix; name = name; attributes = attributes })

-- the end of an element
pub record IsEndAt (text : List ℕ) (piece : Piece) (rest : List ℕ) : Type 0 where
  pub e : WrittenEnd
  pub is : IsEnd e
  pub cut : text ≡ end_bytes e ++ rest
  pub piece_is : piece ≡ pieces.End e.prefix e.name

-- a text of this kind, with what follows it
abbrev pub IsTextAt : List ℕ → ℕ → List ℕ → Piece → List ℕ → Type 0
IsTextAt means len text piece rest = (piece ≡ pieces.Leaf (leaves.Text means)) × (rest ≡ drop len text)

-- the piece that begins with this mark at the front of a text, and what follows it
abbrev pub IsPieceAt : Option Mark → Setting → List ℕ → Spot → List ℕ → Piece → List ℕ → Type 0
IsPieceAt (Some marks.Comment) setting file spot text piece rest =
    (inside : List ℕ) × (around (codes "--%>") (drop 4 text) ≡ Some (inside, rest)) × (piece ≡ pieces.Leaf leaves.Comment)
IsPieceAt (Some marks.Directive) setting file spot text piece rest = IsDirectiveAt setting file spot text piece rest
IsPieceAt (Some marks.Scripting) setting file spot text piece rest = ⊥
IsPieceAt (Some marks.EscapedScripting) setting file spot text piece rest = IsTextAt (codes "<%") 3 text piece rest
IsPieceAt (Some marks.EscapedDollar) setting file spot text piece rest = IsTextAt (codes "$") 2 text piece rest
IsPieceAt (Some marks.EscapedHash) setting file spot text piece rest = IsTextAt (codes "#") 2 text piece rest
IsPieceAt (Some marks.Expression) setting file spot text piece rest =
    (inside : List ℕ) × EndsBehind (drop 2 text) inside rest × (piece ≡ pieces.Leaf (leaves.Expr inside))
IsPieceAt (Some marks.Hash) setting file spot text piece rest = (piece ≡ pieces.Leaf leaves.Hash) × (rest ≡ drop 2 text)
IsPieceAt (Some marks.Start) setting file spot text piece rest = IsStartAt setting file spot text piece rest
IsPieceAt (Some marks.End) setting file spot text piece rest = IsEndAt text piece rest
IsPieceAt None setting file spot text piece rest = (text ≢ []) × IsTextAt (take (text_len setting text) text) (text_len setting text) text piece rest

-- the piece stands at the front of the text, which begins at this place, and this rest follows
abbrev pub Stands : Setting → List ℕ → Spot → List ℕ → Piece → List ℕ → Type 0
Stands setting file spot text piece rest = IsPieceAt (mark_at setting text) setting file spot text piece rest

-- the same of a piece as it is written
pub record IsPiece (setting : Setting) (file : List ℕ) (spot : Spot) (text : List ℕ) (p : WrittenPiece) (rest : List ℕ) : Type 0 where
  pub cut : text ≡ p.bytes ++ rest
  pub spot_is : p.spot ≡ spot
  pub is : Stands setting file spot text p.piece rest

-- where the reading of a file stands: the setting, the place and what is left
pub record Ahead : Type 0 where
  pub setting : Setting
  pub spot : Spot
  pub text : List ℕ

-- what is ahead behind a piece
abbrev pub ahead_of : Ahead → WrittenPiece → List ℕ → Ahead
ahead_of ahead p rest = record { setting = setting_after ahead.setting ahead.spot.byte p.piece; spot = spot_after ahead.spot p.bytes; text = rest }

-- the pieces follow one another, from the one to the other
abbrev pub ArePieces : List ℕ → Ahead → List WrittenPiece → Ahead → Type 0
ArePieces file from [] to = from ≡ to
ArePieces file from (p ∷ pieces) to = (rest : List ℕ) × IsPiece from.setting file from.spot from.text p rest × ArePieces file (ahead_of from p rest) pieces to
