-- A piece takes bytes from the front of the text.
use Rattle.std.proofs.Common.{◌≡◌, ◌≢◌, ◌<◌, ◌∙◌, ◌&&◌, ℕ, Bool, true, false, cond, List, [], ◌∷◌, ◌++◌, length, take, drop, refl, ap, sym, arith, Option, Some, None, append_assoc, length-append, length-take, take-append-drop}
use Rattle.std.specs.Prelude.{codes}
use Rattle.page_pieces.specs.declared.setting.Setting.{Setting}
use Rattle.page_pieces.specs.declared.mark.Mark.{Mark}
use Rattle.page_pieces.specs.declared.spot.Spot.{Spot}
use Rattle.page_pieces.specs.declared.piece.Piece.{Piece}
use Rattle.page_pieces.specs.declared.mark.Mark.TheVariants as marks
use Rattle.page_pieces.specs.Marks.{mark_at}
use Rattle.page_pieces.specs.Texts.{begins, further, around}
use Rattle.page_pieces.specs.Expressions.{EndsBehind}
use Rattle.page_pieces.specs.Tags.{attributes_bytes}
use Rattle.page_pieces.specs.Pieces.{text_len, IsPieceAt, IsDirectiveAt, IsStartAt, IsEndAt}
use Rattle.page_pieces.proofs.AtFront.Before.{some_before}

-- the rest stands at the end of the text
pub record Ends (text rest : List ℕ) : Type 0 where
  pub bytes : List ℕ
  pub cut : text ≡ bytes ++ rest

-- the rest is shorter, and stands at the end of the text
pub record Shortens (text rest : List ℕ) : Type 0 where
  pub bytes : List ℕ
  pub cut : text ≡ bytes ++ rest
  pub some : 0 < length bytes

and_false : (b : Bool) → (b && false) ≡ false
and_false true = refl
and_false false = refl

-- nothing begins at the end of a file
pub no_mark : (setting : Setting) → mark_at setting [] ≡ None
unfolding mark_at
no_mark setting = simp and_false

pub some_text : (setting : Setting) (text : List ℕ) (mark : Mark) → mark_at setting text ≡ Some mark → text ≢ []
some_text setting text mark is empty = absurd (go (ap (mark_at setting) (sym empty) ∙ is))
  where
    go : mark_at setting [] ≡ Some mark → ⊥
    go e = cc (no_mark setting)

ends_byte : (b : ℕ) (bytes rest : List ℕ) → Ends bytes rest → Ends (b ∷ bytes) rest
ends_byte b bytes rest ends = record { bytes = b ∷ ends.bytes; cut = ap (λ x. b ∷ x) ends.cut }

further_found : (b : ℕ) (found : Option (List ℕ × List ℕ)) (inside rest : List ℕ) → further b found ≡ Some (inside, rest) → (before : List ℕ) × (found ≡ Some (before, rest))
further_found b None inside rest is = cc
further_found b (Some found) inside rest is = (found.0, ap (λ x. Some (found.0, x)) (ap (λ p. p.1) same))
  where
    same : ◌≡◌ {A = List ℕ × List ℕ} (b ∷ found.0, found.1) (inside, rest)
    same = cc

around_or : (here : Bool) (bytes rest inside : List ℕ) (b len : ℕ) (found : Option (List ℕ × List ℕ))
    → ((before : List ℕ) → found ≡ Some (before, rest) → Ends bytes rest)
    → cond here (Some ([], drop len (b ∷ bytes))) (further b found) ≡ Some (inside, rest) → Ends (b ∷ bytes) rest
around_or true bytes rest inside b len found ends is = record {
  bytes = take len (b ∷ bytes);
  cut = sym (take-append-drop len (b ∷ bytes)) ∙ ap (λ x. take len (b ∷ bytes) ++ x) (ap (λ p. p.1) same);
}
  where
    same : ◌≡◌ {A = List ℕ × List ℕ} ([], drop len (b ∷ bytes)) (inside, rest)
    same = cc
around_or false bytes rest inside b len found ends is =
    let before = further_found b found inside rest is in ends_byte b bytes rest (ends before.0 before.1)

around_ends : (mark text inside rest : List ℕ) → around mark text ≡ Some (inside, rest) → Ends text rest
around_ends mark [] inside rest is = cc
around_ends mark (b ∷ bytes) inside rest is =
    around_or (begins mark (b ∷ bytes)) bytes rest inside b (length mark) (around mark bytes) (λ before. around_ends mark bytes before rest) is

-- what follows the `}` of an expression
brace_ends : (text inside rest : List ℕ) → EndsBehind text inside rest → Ends text rest
brace_ends text inside rest ends = record { bytes = inside ++ 125 ∷ []; cut = ends.cut ∙ sym (append_assoc inside (125 ∷ []) rest) }

-- a mark of so many bytes, and then what ends with the rest
behind_mark : (n : ℕ) (text rest : List ℕ) → text ≢ [] → 0 < n → Ends (drop n text) rest → Shortens text rest
behind_mark n [] rest not lt ends = absurd (not refl)
behind_mark n (b ∷ text) rest not lt ends = record {
  bytes = take n (b ∷ text) ++ ends.bytes;
  cut = sym (take-append-drop n (b ∷ text)) ∙ ap (λ x. take n (b ∷ text) ++ x) ends.cut ∙ sym (append_assoc (take n (b ∷ text)) ends.bytes rest);
  some = omega (arith, length-append (take n (b ∷ text)) ends.bytes, length-take n (b ∷ text));
}

cut_off : (n : ℕ) (text rest : List ℕ) → text ≢ [] → 0 < n → rest ≡ drop n text → Shortens text rest
cut_off n text rest not lt is = behind_mark n text rest not lt (record { bytes = []; cut = sym is })

some_len : (setting : Setting) (text : List ℕ) → text ≢ [] → mark_at setting text ≡ None → 0 < text_len setting text
some_len setting [] not none = absurd (not refl)
some_len setting (b ∷ bytes) not none = some_before (mark_at setting) (b ∷ bytes) none (omega arith)

-- bytes that begin with so many
head_cut : (text front behind rest : List ℕ) → 0 < length front → text ≡ (front ++ behind) ++ rest → Shortens text rest
head_cut text front behind rest lt is = record { bytes = front ++ behind; cut = is; some = omega (arith, length-append front behind) }

directive_cut : {setting : Setting} {file : List ℕ} {spot : Spot} {text : List ℕ} {piece : Piece} {rest : List ℕ} → IsDirectiveAt setting file spot text piece rest → Shortens text rest
directive_cut at = head_cut _ at.head.opening (attributes_bytes at.head.attributes ++ (at.head.gap ++ at.head.closing)) _
    (rw at.is.opening.is (omega (arith, length-append (codes "<%@") (at.is.opening.gap ++ at.name)))) at.cut

start_cut : {setting : Setting} {file : List ℕ} {spot : Spot} {text : List ℕ} {piece : Piece} {rest : List ℕ} → IsStartAt setting file spot text piece rest → Shortens text rest
start_cut at = head_cut _ at.head.opening (attributes_bytes at.head.attributes ++ (at.head.gap ++ at.head.closing)) _
    (rw at.is.opening.is (omega (arith, length-append (codes "<") (at.prefix ++ (codes ":" ++ at.name))))) at.cut

end_cut : {text : List ℕ} {piece : Piece} {rest : List ℕ} → IsEndAt text piece rest → Shortens text rest
end_cut at = head_cut _ (codes "</") _ _ (omega arith) at.cut

-- by the mark
piece_by_cut : (mark : Option Mark) (setting : Setting) (file : List ℕ) (spot : Spot) (text : List ℕ) (piece : Piece) (rest : List ℕ)
    → mark_at setting text ≡ mark → IsPieceAt mark setting file spot text piece rest → Shortens text rest
piece_by_cut (Some marks.Comment) setting file spot text piece rest at is = behind_mark 4 text rest (some_text setting text _ at) (omega arith) (around_ends (codes "--%>") (drop 4 text) is.0 rest is.1)
piece_by_cut (Some marks.Directive) setting file spot text piece rest at is = directive_cut is
piece_by_cut (Some marks.Scripting) setting file spot text piece rest at is = absurd is
piece_by_cut (Some marks.EscapedScripting) setting file spot text piece rest at is = cut_off 3 text rest (some_text setting text _ at) (omega arith) is.1
piece_by_cut (Some marks.EscapedDollar) setting file spot text piece rest at is = cut_off 2 text rest (some_text setting text _ at) (omega arith) is.1
piece_by_cut (Some marks.EscapedHash) setting file spot text piece rest at is = cut_off 2 text rest (some_text setting text _ at) (omega arith) is.1
piece_by_cut (Some marks.Expression) setting file spot text piece rest at is = behind_mark 2 text rest (some_text setting text _ at) (omega arith) (brace_ends (drop 2 text) is.0 rest is.1)
piece_by_cut (Some marks.Hash) setting file spot text piece rest at is = cut_off 2 text rest (some_text setting text _ at) (omega arith) is.1
piece_by_cut (Some marks.Start) setting file spot text piece rest at is = start_cut is
piece_by_cut (Some marks.End) setting file spot text piece rest at is = end_cut is
piece_by_cut None setting file spot text piece rest at is = cut_off (text_len setting text) text rest is.0 (some_len setting text is.0 at) is.1.1

-- what follows a piece is shorter, and ends the text
pub piece_cut : (setting : Setting) (file : List ℕ) (spot : Spot) (text : List ℕ) (piece : Piece) (rest : List ℕ)
    → IsPieceAt (mark_at setting text) setting file spot text piece rest → Shortens text rest
piece_cut setting file spot text piece rest is = piece_by_cut (mark_at setting text) setting file spot text piece rest refl is
