-- How a piece is read, by the mark that stands first. No public contract speaks of it: that it is what the definition of pieces says is proved.
use Rattle.std.specs.Prelude.{ℕ, List, Option, Some, None, Result, Ok, Err, take, drop, codes}
use Rattle.pg_text.specs.declared.translation_fault.TranslationFault.TheVariants as faults
use Rattle.page_pieces.specs.declared.setting.Setting.{Setting}
use Rattle.page_pieces.specs.declared.mark.Mark.{Mark}
use Rattle.page_pieces.specs.declared.spot.Spot.{Spot}
use Rattle.page_pieces.specs.declared.piece.Piece.{Piece}
use Rattle.page_pieces.specs.declared.piece.Break.{Break}
use Rattle.page_pieces.specs.declared.piece.Piece.TheVariants as pieces
use Rattle.page_pieces.specs.declared.piece.Leaf.TheVariants as leaves
use Rattle.page_pieces.specs.declared.mark.Mark.TheVariants as marks
use Rattle.page_pieces.specs.declared.piece.Break.TheVariants.{Fault}
use Rattle.page_pieces.specs.ReadHead.{◌>>=◌, directive_at, start_at, end_at}
use Rattle.page_pieces.specs.Pieces.{text_len}
use Rattle.page_pieces.specs.Marks.{mark_at}
use Rattle.page_pieces.specs.ReadExpression.{nothing_open, around_brace}
use Rattle.page_pieces.specs.Texts.{around}

abbrev pub or_unclosed : {A : Type 0} → Spot → Option A → Result A Break
or_unclosed spot None = Err (Fault faults.Unclosed spot)
or_unclosed spot (Some found) = Ok found

abbrev pub text_piece : List ℕ → ℕ → List ℕ → Result (Piece × List ℕ) Break
text_piece means len text = Ok (pieces.Leaf (leaves.Text means), drop len text)

-- the piece that begins with this mark at the front of a text, and what follows it, or why none stands there
unfoldable pub piece_by : Option Mark → Setting → List ℕ → Spot → List ℕ → Result (Piece × List ℕ) Break
piece_by (Some marks.Comment) setting file spot text = or_unclosed spot (around (codes "--%>") (drop 4 text)) >>= (λ found. Ok (pieces.Leaf leaves.Comment, found.1))
piece_by (Some marks.Directive) setting file spot text = directive_at setting file spot text
piece_by (Some marks.Scripting) setting file spot text = Err (Fault faults.Scripting spot)
piece_by (Some marks.EscapedScripting) setting file spot text = text_piece (codes "<%") 3 text
piece_by (Some marks.EscapedDollar) setting file spot text = text_piece (codes "$") 2 text
piece_by (Some marks.EscapedHash) setting file spot text = text_piece (codes "#") 2 text
piece_by (Some marks.Expression) setting file spot text = or_unclosed spot (around_brace nothing_open (drop 2 text)) >>= (λ found. Ok (pieces.Leaf (leaves.Expr found.0), found.1))
piece_by (Some marks.Hash) setting file spot text = Ok (pieces.Leaf leaves.Hash, drop 2 text)
piece_by (Some marks.Start) setting file spot text = start_at setting file spot text
piece_by (Some marks.End) setting file spot text = end_at spot text
piece_by None setting file spot text = text_piece (take (text_len setting text) text) (text_len setting text) text

unfoldable pub piece_at : Setting → List ℕ → Spot → List ℕ → Result (Piece × List ℕ) Break
piece_at setting file spot text = piece_by (mark_at setting text) setting file spot text
