-- Text pieces, by the mark that stands first.
use Rattle.std.proofs.Common.{◌≡◌, ◌∙◌, ℕ, List, drop, sym, ap, Option}
use Rattle.page_pieces.specs.declared.setting.Setting.{Setting}
use Rattle.page_pieces.specs.declared.mark.Mark.{Mark}
use Rattle.page_pieces.specs.declared.spot.Spot.{Spot}
use Rattle.page_pieces.specs.Marks.{mark_at}
use Rattle.page_pieces.specs.ReadPiece.{text_piece, piece_by, piece_at}

-- the row of the table that the mark is
pub by_mark : (setting : Setting) (file : List ℕ) (spot : Spot) (text : List ℕ) (mark : Option Mark) → mark_at setting text ≡ mark → piece_at setting file spot text ≡ piece_by mark setting file spot text
unfolding piece_at
by_mark setting file spot text mark is = ap (λ m. piece_by m setting file spot text) is

-- a text piece whose rest is already cut off
pub is_text : (setting : Setting) (file : List ℕ) (spot : Spot) (text : List ℕ) (mark : Option Mark) (means : List ℕ) (len : ℕ) (rest : List ℕ) → mark_at setting text ≡ mark → piece_by mark setting file spot text ≡ text_piece means len text → rest ≡ drop len text
    → text_piece means 0 rest ≡ piece_at setting file spot text
is_text setting file spot text mark means len rest at by is =
    ap (text_piece means 0) is ∙ sym (by_mark setting file spot text mark at ∙ by)
