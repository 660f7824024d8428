-- A piece that is read is a piece as it is written, and a break is one.
use Rattle.std.proofs.Common.{◌≡◌, ◌≢◌, ◌∙◌, ℕ, List, [], take, drop, refl, ap, sym, Option, Some, None, Result, Ok, Err, Bor}
use Rattle.std.specs.Prelude.{codes, IfOk}
use Rattle.std.specs.Result.{IfErr}
use Rattle.pg_text.specs.Failure.{AnswersAs}
use Rattle.pg_text.specs.declared.translation_fault.TranslationFault.TheVariants as faults
use Rattle.pg_text.specs.declared.failure.Failure.{Failure}
use Rattle.pg_text.specs.declared.failure.Failure.TheVariants as failure
use Rattle.page_pieces.specs.declared.setting.Setting.{Setting}
use Rattle.page_pieces.specs.declared.mark.Mark.{Mark}
use Rattle.page_pieces.specs.declared.spot.Spot.{Spot}
use Rattle.page_pieces.specs.declared.piece.Piece.{Piece}
use Rattle.page_pieces.specs.declared.piece.Break.{Break}
use Rattle.page_pieces.specs.declared.piece.Piece.TheVariants as pieces
use Rattle.page_pieces.specs.declared.piece.Leaf.TheVariants as leaves
use Rattle.page_pieces.specs.declared.mark.Mark.TheVariants as marks
use Rattle.page_pieces.specs.declared.piece.Break.TheVariants.{Fault}
use Rattle.page_pieces.specs.Marks.{mark_at}
use Rattle.page_pieces.specs.Texts.{around}
use Rattle.page_pieces.specs.ReadExpression.{nothing_open, around_brace}
use Rattle.page_pieces.specs.Pieces.{text_len, IsTextAt, IsPieceAt}
use Rattle.page_pieces.specs.Breaks.{IsBreakAt, BreaksOff}
use Rattle.page_pieces.specs.ReadHead.{◌>>=◌}
use Rattle.page_pieces.proofs.Expressions.Found.{end_found}
use Rattle.page_pieces.proofs.Expressions.Ends.{end_is, none_is, none_found}
use Rattle.page_pieces.proofs.Heads.Meaning.{directive_piece, directive_break, start_piece_is, start_break, end_piece, end_break}
use Rattle.page_pieces.specs.ReadPiece.{or_unclosed, text_piece, piece_by, piece_at}

-- what is read where this mark begins is a piece as it is written, and a break is one, both ways
pub record Means (mark : Option Mark) (setting : Setting) (file : List ℕ) (spot : Spot) (text : List ℕ) (read : Result (Piece × List ℕ) Break) : Type 0 where
  pub stands : (piece : Piece) (rest : List ℕ) → read ≡ Ok (piece, rest) → IsPieceAt mark setting file spot text piece rest
  pub is_read : (piece : Piece) (rest : List ℕ) → IsPieceAt mark setting file spot text piece rest → read ≡ Ok (piece, rest)
  pub breaks : (fault : Break) → read ≡ Err fault → IsBreakAt mark setting file spot text fault
  pub is_broken : (fault : Break) → IsBreakAt mark setting file spot text fault → read ≡ Err fault

same_piece : (a b : Piece) (x y : List ℕ) → ◌≡◌ {A = Result (Piece × List ℕ) Break} (Ok (a, x)) (Ok (b, y)) → (b ≡ a) × (y ≡ x)
same_piece a b x y is = (ap (λ p. p.0) pairs, ap (λ p. p.1) pairs)
  where
    pairs : ◌≡◌ {A = Piece × List ℕ} (b, y) (a, x)
    pairs = cc

made_piece : (a b : Piece) (x y : List ℕ) → b ≡ a → y ≡ x → ◌≡◌ {A = Result (Piece × List ℕ) Break} (Ok (a, x)) (Ok (b, y))
made_piece a b x y p q = ap (λ z. Ok (z, x)) (sym p) ∙ ap (λ z. Ok (b, z)) (sym q)

-- what is read is a text of this kind
text_both : (means : List ℕ) (len : ℕ) (text : List ℕ) (piece : Piece) (rest : List ℕ) → (text_piece means len text ≡ Ok (piece, rest) → IsTextAt means len text piece rest) × (IsTextAt means len text piece rest → text_piece means len text ≡ Ok (piece, rest))
text_both means len text piece rest = (λ is. same_piece (pieces.Leaf (leaves.Text means)) piece (drop len text) rest is, λ is. made_piece (pieces.Leaf (leaves.Text means)) piece (drop len text) rest is.0 is.1)

-- what is read is no break
no_break : (read : Piece × List ℕ) (fault : Break) → (◌≡◌ {A = Result (Piece × List ℕ) Break} (Ok read) (Err fault) → ⊥) × (⊥ → ◌≡◌ {A = Result (Piece × List ℕ) Break} (Ok read) (Err fault))
no_break read fault = (λ is. cc, λ none. absurd none)

-- a piece that is read up to what closes it
abbrev closed_piece : Spot → (List ℕ → Piece) → Option (List ℕ × List ℕ) → Result (Piece × List ℕ) Break
closed_piece spot made found = or_unclosed spot found >>= (λ found. Ok (made found.0, found.1))

around_means : (spot : Spot) (made : List ℕ → Piece) (found : Option (List ℕ × List ℕ)) (piece : Piece) (rest : List ℕ)
    → closed_piece spot made found ≡ Ok (piece, rest) → (inside : List ℕ) × (found ≡ Some (inside, rest)) × (piece ≡ made inside)
around_means spot made None piece rest is = cc
around_means spot made (Some found) piece rest is =
    let same = same_piece (made found.0) piece found.1 rest is in (found.0, ap (λ x. Some (found.0, x)) (sym same.1), same.0)

around_read : (spot : Spot) (made : List ℕ → Piece) (found : Option (List ℕ × List ℕ)) (piece : Piece) (inside rest : List ℕ)
    → found ≡ Some (inside, rest) → piece ≡ made inside → closed_piece spot made found ≡ Ok (piece, rest)
around_read spot made found piece inside rest is same = ap (closed_piece spot made) is ∙ ap (λ x. Ok (x, rest)) (sym same)

around_breaks : (spot : Spot) (made : List ℕ → Piece) (found : Option (List ℕ × List ℕ)) (fault : Break)
    → closed_piece spot made found ≡ Err fault → (found ≡ None) × (fault ≡ Fault faults.Unclosed spot)
around_breaks spot made None fault is = (refl, cc)
around_breaks spot made (Some found) fault is = cc

around_broken : (spot : Spot) (made : List ℕ → Piece) (found : Option (List ℕ × List ℕ)) (fault : Break) → found ≡ None → fault ≡ Fault faults.Unclosed spot
    → closed_piece spot made found ≡ Err fault
around_broken spot made found fault none is = ap (closed_piece spot made) none ∙ ap (λ x. Err x) (sym is)

-- what is so both ways is so one way and the other
both_ways : {mark : Option Mark} {setting : Setting} {file : List ℕ} {spot : Spot} {text : List ℕ} {read : Result (Piece × List ℕ) Break}
    → ((piece : Piece) (rest : List ℕ) → (read ≡ Ok (piece, rest) → IsPieceAt mark setting file spot text piece rest) × (IsPieceAt mark setting file spot text piece rest → read ≡ Ok (piece, rest)))
    → ((fault : Break) → (read ≡ Err fault → IsBreakAt mark setting file spot text fault) × (IsBreakAt mark setting file spot text fault → read ≡ Err fault)) → Means mark setting file spot text read
both_ways piece fault = record { stands = λ p rest. (piece p rest).0; is_read = λ p rest. (piece p rest).1; breaks = λ f. (fault f).0; is_broken = λ f. (fault f).1 }

pub by_mark : (mark : Option Mark) (setting : Setting) (file : List ℕ) (spot : Spot) (text : List ℕ) → text ≢ [] → mark_at setting text ≡ mark
    → Means mark setting file spot text (piece_by mark setting file spot text)
unfolding piece_by
by_mark (Some marks.Comment) setting file spot text not at = record {
  stands = around_means spot (λ inside. pieces.Leaf leaves.Comment) (around (codes "--%>") (drop 4 text));
  is_read = λ piece rest is. around_read spot (λ inside. pieces.Leaf leaves.Comment) (around (codes "--%>") (drop 4 text)) piece is.0 rest is.1 is.2;
  breaks = around_breaks spot (λ inside. pieces.Leaf leaves.Comment) (around (codes "--%>") (drop 4 text));
  is_broken = λ fault is. around_broken spot (λ inside. pieces.Leaf leaves.Comment) (around (codes "--%>") (drop 4 text)) fault is.0 is.1;
}
by_mark (Some marks.Directive) setting file spot text not at = both_ways (directive_piece setting file spot text at) (directive_break setting file spot text at)
by_mark (Some marks.Scripting) setting file spot text not at = record {
  stands = λ piece rest is. cc;
  is_read = λ piece rest is. absurd is;
  breaks = λ fault is. cc;
  is_broken = λ fault is. ap (λ x. Err x) (sym is);
}
by_mark (Some marks.EscapedScripting) setting file spot text not at = both_ways (text_both (codes "<%") 3 text) (no_break _)
by_mark (Some marks.EscapedDollar) setting file spot text not at = both_ways (text_both (codes "$") 2 text) (no_break _)
by_mark (Some marks.EscapedHash) setting file spot text not at = both_ways (text_both (codes "#") 2 text) (no_break _)
by_mark (Some marks.Expression) setting file spot text not at = record {
  stands = λ piece rest is.
      let made = around_means spot (λ inside. pieces.Leaf (leaves.Expr inside)) (around_brace nothing_open (drop 2 text)) piece rest is in
      (made.0, end_is (drop 2 text) made.0 rest made.1, made.2);
  is_read = λ piece rest is. around_read spot (λ inside. pieces.Leaf (leaves.Expr inside)) (around_brace nothing_open (drop 2 text)) piece is.0 rest (end_found (drop 2 text) is.0 rest is.1) is.2;
  breaks = λ fault is.
      let none = around_breaks spot (λ inside. pieces.Leaf (leaves.Expr inside)) (around_brace nothing_open (drop 2 text)) fault is in
      (none_is (drop 2 text) none.0, none.1);
  is_broken = λ fault is. around_broken spot (λ inside. pieces.Leaf (leaves.Expr inside)) (around_brace nothing_open (drop 2 text)) fault (none_found (drop 2 text) is.0) is.1;
}
by_mark (Some marks.Hash) setting file spot text not at =
    both_ways (λ piece rest. (λ is. same_piece (pieces.Leaf leaves.Hash) piece (drop 2 text) rest is, λ is. made_piece (pieces.Leaf leaves.Hash) piece (drop 2 text) rest is.0 is.1)) (no_break _)
by_mark (Some marks.Start) setting file spot text not at = both_ways (start_piece_is setting file spot text at) (start_break setting file spot text at)
by_mark (Some marks.End) setting file spot text not at = both_ways (end_piece setting file spot text at) (end_break setting file spot text at)
by_mark None setting file spot text not at =
    let front = text_both (take (text_len setting text) text) (text_len setting text) text in
    both_ways (λ piece rest. (λ is. (not, (front piece rest).0 is), λ is. (front piece rest).1 is.1)) (no_break _)

-- what is read at the front of a text is what is written there
pub piece_means : (setting : Setting) (file : List ℕ) (spot : Spot) (text : List ℕ) → text ≢ []
    → Means (mark_at setting text) setting file spot text (piece_at setting file spot text)
unfolding piece_at
piece_means setting file spot text not = by_mark (mark_at setting text) setting file spot text not refl

-- what was returned is the piece that stands there
pub stands_there : (mark : Option Mark) (setting : Setting) (file : List ℕ) (spot : Spot) (text : List ℕ) (read : Result (Piece × List ℕ) Break) (result : Result (Piece × Bor (List ℕ)) (Failure Break))
    → Means mark setting file spot text read → AnswersAs (λ x. (x.0, x.1.now)) read result → IfOk result (λ x. IsPieceAt mark setting file spot text x.0 x.1.now)
stands_there mark setting file spot text read (Ok x) means answers = means.stands x.0 x.1.now answers
stands_there mark setting file spot text read (Err fault) means answers = tt

-- what was returned is why none stands there
pub breaks_there : (setting : Setting) (file : List ℕ) (spot : Spot) (text : List ℕ) (read : Result (Piece × List ℕ) Break) (result : Result (Piece × Bor (List ℕ)) (Failure Break))
    → Means (mark_at setting text) setting file spot text read → AnswersAs (λ x. (x.0, x.1.now)) read result → IfErr result (λ fault. BreaksOff setting file spot text fault)
breaks_there setting file spot text read (Ok x) means answers = tt
breaks_there setting file spot text read (Err failure.NoMemory) means answers = tt
breaks_there setting file spot text read (Err (failure.Fault fault)) means answers = means.breaks fault answers
