-- Where the mark of a head begins, its reading is what the grammar says, both ways.
use Rattle.std.proofs.Common.{◌≡◌, ℕ, ◌<◌, ◌↔◌, Some, Ok, Err, List, length, ap, arith, length-append}
use Rattle.page_pieces.specs.declared.setting.Setting.{Setting}
use Rattle.page_pieces.specs.declared.mark.Mark.TheVariants as marks
use Rattle.page_pieces.specs.declared.spot.Spot.{Spot}
use Rattle.page_pieces.specs.declared.piece.Piece.{Piece}
use Rattle.page_pieces.specs.declared.piece.Break.{Break}
use Rattle.page_pieces.specs.Marks.{mark_at}
use Rattle.page_pieces.specs.Pieces.{IsDirectiveAt, IsStartAt, IsEndAt, IsPieceAt}
use Rattle.page_pieces.specs.Breaks.{IsBreakAt}
use Rattle.page_pieces.specs.ReadHead.{directive_at, start_at, end_at}
use Rattle.page_pieces.proofs.Heads.Marks.{directive_begins_so, start_begins_so, end_begins_so}
use Rattle.page_pieces.proofs.Heads.Directives.{directive_stands, directive_is_read, directive_breaks, directive_break_is_read}
use Rattle.page_pieces.proofs.Heads.Starts.{start_stands, start_is_read, start_breaks, start_break_is_read}
use Rattle.page_pieces.proofs.Heads.Ends.{end_stands, end_is_read, end_breaks, end_break_is_read}

module _ (setting : Setting) (file : List ℕ) (spot : Spot) (text : List ℕ) where
  pub directive_piece : mark_at setting text ≡ Some marks.Directive → (piece : Piece) (rest : List ℕ) → (directive_at setting file spot text ≡ Ok (piece, rest)) ↔ IsPieceAt (Some marks.Directive) setting file spot text piece rest
  directive_piece mark piece rest = (directive_stands setting file spot text (directive_begins_so setting text mark) piece rest, directive_is_read setting file spot text (directive_begins_so setting text mark) piece rest)

  pub directive_break : mark_at setting text ≡ Some marks.Directive → (fault : Break) → (directive_at setting file spot text ≡ Err fault) ↔ IsBreakAt (Some marks.Directive) setting file spot text fault
  directive_break mark fault = (directive_breaks setting file spot text (directive_begins_so setting text mark) fault, directive_break_is_read setting file spot text (directive_begins_so setting text mark) fault)

  pub start_piece_is : mark_at setting text ≡ Some marks.Start → (piece : Piece) (rest : List ℕ) → (start_at setting file spot text ≡ Ok (piece, rest)) ↔ IsPieceAt (Some marks.Start) setting file spot text piece rest
  start_piece_is mark piece rest = (start_stands setting file spot text (start_begins_so setting text mark) piece rest, start_is_read setting file spot text (start_begins_so setting text mark) piece rest)

  pub start_break : mark_at setting text ≡ Some marks.Start → (fault : Break) → (start_at setting file spot text ≡ Err fault) ↔ IsBreakAt (Some marks.Start) setting file spot text fault
  start_break mark fault = (start_breaks setting file spot text (start_begins_so setting text mark) fault, start_break_is_read setting file spot text (start_begins_so setting text mark) fault)

  pub end_piece : mark_at setting text ≡ Some marks.End → (piece : Piece) (rest : List ℕ) → (end_at spot text ≡ Ok (piece, rest)) ↔ IsPieceAt (Some marks.End) setting file spot text piece rest
  end_piece mark piece rest = (end_stands spot text (end_begins_so setting text mark) piece rest, end_is_read spot text (end_begins_so setting text mark) piece rest)

  pub end_break : mark_at setting text ≡ Some marks.End → (fault : Break) → (end_at spot text ≡ Err fault) ↔ IsBreakAt (Some marks.End) setting file spot text fault
  end_break mark fault = (end_breaks spot text (end_begins_so setting text mark) fault, end_break_is_read spot text (end_begins_so setting text mark) fault)

  -- what follows a head is shorter than what begins with it
  pub directive_shorter : (piece : Piece) (rest : List ℕ) → IsDirectiveAt setting file spot text piece rest → length rest < length text
  directive_shorter piece rest d = omega (arith, simp length-append at (ap length d.cut), simp length-append at (ap length d.is.opening.is))

  pub start_shorter : (piece : Piece) (rest : List ℕ) → IsStartAt setting file spot text piece rest → length rest < length text
  start_shorter piece rest s = omega (arith, simp length-append at (ap length s.cut), simp length-append at (ap length s.is.opening.is))

  pub end_shorter : (piece : Piece) (rest : List ℕ) → IsEndAt text piece rest → length rest < length text
  end_shorter piece rest s = omega (arith, simp length-append at (ap length s.cut))
