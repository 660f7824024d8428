-- The end of an element as it is read is the end of an element as it is written.
use Rattle.std.proofs.Common.{◌≡◌, ℕ, Some, None, Option, Result, Ok, Err, List, ◌∷◌, ◌++◌, drop, codes, refl, sym, ap, ◌∙◌, append_assoc}
use Rattle.page_pieces.specs.declared.spot.Spot.{Spot}
use Rattle.page_pieces.specs.declared.piece.Piece.{Piece}
use Rattle.page_pieces.specs.declared.piece.Piece.TheVariants as pieces
use Rattle.page_pieces.specs.declared.piece.Break.{Break}
use Rattle.page_pieces.specs.declared.piece.Break.TheVariants.{BadEnd}
use Rattle.page_pieces.specs.declared.head.HeadEnd.TheVariants as ends
use Rattle.page_pieces.specs.Names.{IsWhite, is_white, white_front, behind_white}
use Rattle.page_pieces.specs.Texts.{after}
use Rattle.page_pieces.specs.Marks.{TagName, tag_name}
use Rattle.page_pieces.specs.Tags.{WrittenEnd, end_bytes, IsEnd, BeginsEnd}
use Rattle.page_pieces.specs.Pieces.{IsEndAt}
use Rattle.page_pieces.specs.ReadHead.{closed_end, end_of, end_behind, or_bad_end, end_at}
use Rattle.page_pieces.proofs.AtFront.Longest.{front_is, front_all, front_cut}
use Rattle.page_pieces.proofs.AtFront.Names.{some_same}
use Rattle.page_pieces.proofs.AtFront.Marks.{begins_cut, after_cut}
use Rattle.page_pieces.proofs.Heads.Attributes.{ok_same, not_both}
use Rattle.page_pieces.proofs.AtFront.TagNames.{TagFront, tag_front, tag_found, TagBehind}
use Rattle.page_pieces.proofs.Heads.Fronts.{gap_stops}

-- what follows the `>` of an end, behind its name
abbrev closed : List ℕ → Option (List ℕ)
closed text = after (codes ">") (behind_white text)

closed_found : (gap rest : List ℕ) → IsWhite gap → closed (gap ++ 62 ∷ rest) ≡ Some rest
closed_found gap rest white = ap (after (codes ">")) (front_is is_white gap (62 ∷ rest) white refl).left

-- the bytes of an end and what follows it
end_cut : (e : WrittenEnd) (rest : List ℕ) → end_bytes e ++ rest ≡ 60 ∷ 47 ∷ (e.prefix ++ 58 ∷ (e.name ++ (e.gap ++ 62 ∷ rest)))
end_cut e rest = simp append_assoc

-- a name of an element that leaves this rest
abbrev tag_with : List ℕ → List ℕ → List ℕ → TagName
tag_with prefix name rest = record { prefix = prefix; name = name; rest = rest }

-- the prefix and the name of an end that stands at the front of a text
opened : (text : List ℕ) (e : WrittenEnd) (rest : List ℕ) → IsEnd e → text ≡ end_bytes e ++ rest → tag_name (drop 2 text) ≡ Some (tag_with e.prefix e.name (e.gap ++ 62 ∷ rest))
opened text e rest is cut = ap (λ t. tag_name (drop 2 t)) (cut ∙ end_cut e rest) ∙ tag_found e.prefix e.name (e.gap ++ 62 ∷ rest) is.prefixed is.named (gap_stops e.gap ends.Start rest is.gap)

-- the end with this name, and what stands behind that
abbrev end_with : TagName → WrittenEnd
end_with tag = record { prefix = tag.prefix; name = tag.name; gap = white_front tag.rest }

module _ (spot : Spot) (text : List ℕ) (behind : TagBehind (codes "</") text) where
  -- the name behind the mark, and the text that begins with both
  front_of : TagFront (drop 2 text) behind.tag
  front_of = tag_front (drop 2 text) behind.tag behind.named

  text_is : text ≡ 60 ∷ 47 ∷ (behind.tag.prefix ++ 58 ∷ (behind.tag.name ++ behind.tag.rest))
  text_is = begins_cut (codes "</") text behind.stands ∙ ap (λ t. 60 ∷ 47 ∷ t) front_of.cut

  end_is : end_at spot text ≡ or_bad_end spot (closed_end behind.tag (closed behind.tag.rest))
  unfolding end_at end_behind
  end_is = ap (λ o. or_bad_end spot (end_of o)) behind.named

  -- where it is closed, the end stands there
  stands_so : (rest : List ℕ) → closed behind.tag.rest ≡ Some rest → IsEndAt text (pieces.End behind.tag.prefix behind.tag.name) rest
  stands_so rest is = record {
    e = end_with behind.tag;
    is = record { prefixed = front_of.prefixed; named = front_of.named; gap = front_all is_white behind.tag.rest };
    cut =
        text_is
        ∙ ap (λ t. 60 ∷ 47 ∷ (behind.tag.prefix ++ 58 ∷ (behind.tag.name ++ t))) (front_cut is_white behind.tag.rest ∙ ap (λ t. white_front behind.tag.rest ++ t) (after_cut (codes ">") (behind_white behind.tag.rest) rest is))
        ∙ sym (end_cut (end_with behind.tag) rest);
    piece_is = refl;
  }

  -- what is read stands there
  pub end_stands : (piece : Piece) (rest : List ℕ) → end_at spot text ≡ Ok (piece, rest) → IsEndAt text piece rest
  end_stands piece rest is = go (closed behind.tag.rest) refl (sym end_is ∙ is)
    where
      go : (found : Option (List ℕ)) → closed behind.tag.rest ≡ found → or_bad_end spot (closed_end behind.tag found) ≡ Ok (piece, rest) → IsEndAt text piece rest
      go None at read = absurd (not_both read)
      go (Some more) at read =
          let same = ok_same read in
          let s = stands_so more at in
          record { e = s.e; is = s.is; cut = s.cut ∙ ap (λ r. end_bytes s.e ++ r) (ap (λ x. x.1) same); piece_is = sym (ap (λ x. x.0) same) ∙ s.piece_is }

  -- what stands there is closed
  is_closed : (e : WrittenEnd) (rest : List ℕ) → IsEnd e → text ≡ end_bytes e ++ rest → closed_end behind.tag (closed behind.tag.rest) ≡ Some (pieces.End e.prefix e.name, rest)
  is_closed e rest is cut =
      let tag_is : behind.tag ≡ tag_with e.prefix e.name (e.gap ++ 62 ∷ rest) = some_same (sym behind.named ∙ opened text e rest is cut) in
      ap (λ t. closed_end t (closed t.rest)) tag_is ∙ ap (closed_end (tag_with e.prefix e.name (e.gap ++ 62 ∷ rest))) (closed_found e.gap rest is.gap)

  -- what stands there is read
  pub end_is_read : (piece : Piece) (rest : List ℕ) → IsEndAt text piece rest → end_at spot text ≡ Ok (piece, rest)
  end_is_read piece rest s = end_is ∙ ap (or_bad_end spot) (is_closed s.e rest s.is s.cut) ∙ ap (λ p. Ok (p, rest)) (sym s.piece_is)

  -- where nothing is read, no end stands
  pub end_breaks : (fault : Break) → end_at spot text ≡ Err fault → ¬ (BeginsEnd text) × (fault ≡ BadEnd spot)
  end_breaks fault is = go (closed_end behind.tag (closed behind.tag.rest)) refl (sym end_is ∙ is)
    where
      go : (found : Option (Piece × List ℕ)) → closed_end behind.tag (closed behind.tag.rest) ≡ found → or_bad_end spot found ≡ Err fault → ¬ (BeginsEnd text) × (fault ≡ BadEnd spot)
      go None at read = (λ begun. cc (sym at ∙ is_closed begun.e begun.rest begun.is begun.cut), cc)
      go (Some found) at read = absurd (not_both (sym read))

  pub end_break_is_read : (fault : Break) → ¬ (BeginsEnd text) × (fault ≡ BadEnd spot) → end_at spot text ≡ Err fault
  end_break_is_read fault (not_yet, same) = go (end_at spot text) refl
    where
      go : (r : Result (Piece × List ℕ) Break) → end_at spot text ≡ r → r ≡ Err fault
      go (Ok found) is =
          let s = end_stands found.0 found.1 is in
          absurd (not_yet (record { e = s.e; is = s.is; rest = found.1; cut = s.cut }))
      go (Err other) is = ap Err ((end_breaks other is).1 ∙ sym same)
