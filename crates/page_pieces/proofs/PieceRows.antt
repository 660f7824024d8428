-- Pieces in a row.
use Rattle.std.proofs.Common.{◌≡◌, ◌≤◌, ◌<◌, ◌-◌, ◌∙◌, ℕ, List, [], ◌∷◌, ◌++◌, length, take, refl, ap, sym, subst, arith, length-append, take_at}
use Rattle.page_pieces.specs.declared.setting.Setting.{Setting}
use Rattle.page_pieces.specs.declared.spot.Spot.{Spot}
use Rattle.page_pieces.specs.Pieces.{WrittenPiece, IsPiece, Ahead, ahead_of, ArePieces}
use Rattle.page_pieces.proofs.PieceCuts.{piece_cut}

-- what follows a piece is shorter
pub piece_shorter : (setting : Setting) (file : List ℕ) (spot : Spot) (text : List ℕ) (p : WrittenPiece) (rest : List ℕ) → IsPiece setting file spot text p rest
    → length rest < length text
piece_shorter setting file spot text p rest is =
    let cut = piece_cut setting file spot text p.piece rest is.is in
    rw cut.cut (omega (arith, length-append cut.bytes rest, cut.some))

-- the bytes of a piece are those up to what follows it
pub piece_bytes : (setting : Setting) (file : List ℕ) (spot : Spot) (text : List ℕ) (p : WrittenPiece) (rest : List ℕ) → IsPiece setting file spot text p rest
    → take (length text - length rest) text ≡ p.bytes
piece_bytes setting file spot text p rest is =
    ap (λ x. take (length x - length rest) x) is.cut ∙ take_at p.bytes rest (length (p.bytes ++ rest) - length rest) (omega (arith, length-append p.bytes rest))

-- what follows pieces is no longer
pub pieces_shorter : (file : List ℕ) (pieces : List WrittenPiece) (from to : Ahead) → ArePieces file from pieces to → length to.text ≤ length from.text
pieces_shorter file [] from to are = rw are (omega arith)
pieces_shorter file (p ∷ pieces) from to are =
    omega (arith, piece_shorter from.setting file from.spot from.text p are.0 are.1, pieces_shorter file pieces (ahead_of from p are.0) to are.2)

-- pieces, and then others
pub pieces_both : (file : List ℕ) (pieces others : List WrittenPiece) (from between to : Ahead) → ArePieces file from pieces between → ArePieces file between others to
    → ArePieces file from (pieces ++ others) to
pieces_both file [] others from between to are more = subst (λ x. ArePieces file x others to) (sym are) more
pieces_both file (p ∷ pieces) others from between to are more = (are.0, are.1, pieces_both file pieces others (ahead_of from p are.0) between to are.2 more)

-- the place between two rows of pieces
pub record Parted (file : List ℕ) (pieces others : List WrittenPiece) (from to : Ahead) : Type 0 where
  pub between : Ahead
  pub are : ArePieces file from pieces between
  pub more : ArePieces file between others to

pub pieces_part : (file : List ℕ) (pieces others : List WrittenPiece) (from to : Ahead) → ArePieces file from (pieces ++ others) to → Parted file pieces others from to
pieces_part file [] others from to are = record { between = from; are = refl; more = are }
pieces_part file (p ∷ pieces) others from to are =
    let parted = pieces_part file pieces others (ahead_of from p are.0) to are.2 in
    record { between = parted.between; are = (are.0, are.1, parted.are); more = parted.more }
