-- The start of an element as it is read is the start of an element as it is written.
use Rattle.std.proofs.Common.{◌≡◌, ℕ, ◌-◌, Bool, true, false, Some, Ok, Err, List, [], ◌∷◌, ◌++◌, length, drop, take, codes, refl, sym, ap, ◌∙◌, append_assoc}
use Rattle.page_pieces.specs.declared.setting.Setting.{Setting}
use Rattle.page_pieces.specs.declared.attribute.Attribute.{Attribute}
use Rattle.page_pieces.specs.declared.mark.Mark.TheVariants as marks
use Rattle.page_pieces.specs.declared.spot.Spot.{Spot}
use Rattle.page_pieces.specs.declared.piece.Tag.{Tag}
use Rattle.page_pieces.specs.declared.piece.Piece.{Piece}
use Rattle.page_pieces.specs.declared.piece.Break.{Break}
use Rattle.page_pieces.specs.declared.head.HeadEnd.{HeadEnd}
use Rattle.page_pieces.specs.declared.head.HeadEnd.TheVariants as ends
use Rattle.page_pieces.specs.declared.head.HeadKind.TheVariants as kinds
use Rattle.page_pieces.specs.Names.{is_name_byte}
use Rattle.page_pieces.specs.Spots.{spot_after}
use Rattle.page_pieces.specs.Marks.{TagName, tag_name}
use Rattle.page_pieces.specs.Tags.{head_bytes, OpensElement, ClosesElement, element_closing, IsStartOpening, IsElementClosing, IsStart, BeginsHead}
use Rattle.page_pieces.specs.Pieces.{IsStartAt, tag_piece}
use Rattle.page_pieces.specs.Breaks.{IsBreakAt, HasBadValue}
use Rattle.page_pieces.specs.ReadHead.{◌>>=◌, map_err, or_misread, unread, attributes_read, attributes_at, closing_bytes, walk_at, start_piece, start_at}
use Rattle.page_pieces.proofs.AtFront.Longest.{Stops}
use Rattle.page_pieces.proofs.AtFront.Names.{some_same}
use Rattle.page_pieces.proofs.AtFront.Marks.{begins_cut}
use Rattle.page_pieces.proofs.Heads.Attributes.{Bound, bound, ok_same}
use Rattle.page_pieces.proofs.AtFront.TagNames.{TagFront, tag_front, tag_found, TagBehind}
use Rattle.page_pieces.proofs.Heads.Walks.{ClosesHead}
use Rattle.page_pieces.proofs.Heads.Fronts.{HeadFront, KnownClosing, WholeHead, StandingHead, head_with, AttributesRead, attributes_ok, taken_opening, bad_value_found, head_stands, whole_head, whole_attributes, attributes_break}
use Rattle.page_pieces.proofs.AttributeValues.Meaning.{attributes_are}
use Rattle.page_pieces.proofs.Heads.Breaks.{break_back, bind_err}

-- a name of an element that leaves this rest
abbrev tag_with : List ℕ → List ℕ → List ℕ → TagName
tag_with prefix name rest = record { prefix = prefix; name = name; rest = rest }

-- the prefix and the name of an opening that stands at the front of a text
opened : (text opening rest prefix name : List ℕ) → OpensElement prefix name opening → text ≡ opening ++ rest → Stops is_name_byte rest → tag_name (drop 1 text) ≡ Some (tag_with prefix name rest)
opened text opening rest prefix name opens cut stops =
    ap (λ t. tag_name (drop 1 t)) (cut ∙ ap (λ o. o ++ rest) opens.is ∙ ap (λ t. 60 ∷ t) (append_assoc prefix (58 ∷ name) rest))
    ∙ tag_found prefix name rest opens.prefixed opens.named stops

one_rest : (text one rest other more : List ℕ) → HeadFront IsStartOpening text one rest → HeadFront IsStartOpening text other more → rest ≡ more
one_rest text one rest other more front front2 =
    ap (λ t. t.rest) (some_same (sym (opened text one rest front.opens.0 front.opens.1 front.opens.2 front.cut front.stops) ∙ opened text other more front2.opens.0 front2.opens.1 front2.opens.2 front2.cut front2.stops))

-- an opening has one prefix and one name
same_names : (one other prefix name prefix2 name2 : List ℕ) → one ≡ other → OpensElement prefix name one → OpensElement prefix2 name2 other → tag_with prefix name [] ≡ tag_with prefix2 name2 []
same_names one other prefix name prefix2 name2 is opens opens2 =
    some_same (sym (opened (one ++ []) one [] prefix name opens refl tt) ∙ ap (λ o. tag_name (drop 1 (o ++ []))) is ∙ opened (other ++ []) other [] prefix2 name2 opens2 refl tt)

known : (closing : List ℕ) → IsElementClosing closing → KnownClosing kinds.Element closing
known closing (true, is) = record { end = ends.Empty; closes = tt; is = is }
known closing (false, is) = record { end = ends.Start; closes = tt; is = is }

closes : (end : HeadEnd) → ClosesHead kinds.Element end → IsElementClosing (closing_bytes end)
closes ends.Directive is = absurd is
closes ends.Start is = (false, refl)
closes ends.Empty is = (true, refl)

-- the opening that a tag's name gives
abbrev opening_of : TagName → List ℕ
opening_of tag = codes "<" ++ (tag.prefix ++ (codes ":" ++ tag.name))

opens_so : (text : List ℕ) (tag : TagName) → TagFront text tag → OpensElement tag.prefix tag.name (opening_of tag)
opens_so text tag front = record { prefixed = front.prefixed; named = front.named; is = refl }

start_front : (text : List ℕ) (behind : TagBehind (codes "<") text) → HeadFront IsStartOpening text (opening_of behind.tag) behind.tag.rest
start_front text behind =
    let tag = behind.tag in
    let front = tag_front (drop 1 text) tag behind.named in
    record {
      opens = (tag.prefix, tag.name, opens_so (drop 1 text) tag front);
      cut = begins_cut (codes "<") text behind.stands ∙ ap (λ t. 60 ∷ t) (front.cut ∙ sym (append_assoc tag.prefix (58 ∷ tag.name) tag.rest));
      stops = front.stops;
    }

-- the piece that is made of the name, the attributes and the end of a start, with what follows
abbrev made : TagName → List Attribute × (HeadEnd × List ℕ) → Piece × List ℕ
made tag found = (start_piece found.1.0 (record { prefix = tag.prefix; name = tag.name; attributes = found.0 }), found.1.1)

module _ (setting : Setting) (file : List ℕ) (spot : Spot) (text : List ℕ) (behind : TagBehind (codes "<") text) where
  start_is : start_at setting file spot text ≡ (attributes_at setting file spot (spot_after spot (opening_of behind.tag)) kinds.Element behind.tag.rest >>= (λ found. Ok (made behind.tag found)))
  unfolding start_at
  start_is =
      ap (λ o. map_err (unread spot) (or_misread (drop 1 text) o) >>= (λ tag.
      attributes_at setting file spot (spot_after spot (take (length text - length tag.rest) text)) kinds.Element tag.rest >>= (λ found. Ok (made tag found)))) behind.named
      ∙ ap (λ o. attributes_at setting file spot (spot_after spot o) kinds.Element behind.tag.rest >>= (λ found. Ok (made behind.tag found)))
      (taken_opening text (opening_of behind.tag) behind.tag.rest (start_front text behind).cut)

  -- whether an end says that the element is empty
  record Shape (end : HeadEnd) : Type 0 where
    empty : Bool
    closing : ClosesElement empty (closing_bytes end)
    piece : (tag : Tag) → start_piece end tag ≡ tag_piece empty tag

  shape_of : (end : HeadEnd) → ClosesHead kinds.Element end → Shape end
  shape_of ends.Directive is = absurd is
  shape_of ends.Start is = record { empty = false; closing = refl; piece = λ tag. refl }
  shape_of ends.Empty is = record { empty = true; closing = refl; piece = λ tag. refl }

  shape_is : (end : HeadEnd) (empty : Bool) (tag : Tag) → closing_bytes end ≡ element_closing empty → start_piece end tag ≡ tag_piece empty tag
  shape_is ends.Directive true tag is = cc
  shape_is ends.Directive false tag is = cc
  shape_is ends.Start true tag is = cc
  shape_is ends.Start false tag is = refl
  shape_is ends.Empty true tag is = refl
  shape_is ends.Empty false tag is = cc

  -- what is read stands there
  pub start_stands : (piece : Piece) (rest : List ℕ) → start_at setting file spot text ≡ Ok (piece, rest) → IsStartAt setting file spot text piece rest
  start_stands piece rest is = record {
    head = head_with (opening_of tag) (walk_at kinds.Element tag.rest) found.1.0;
    prefix = tag.prefix;
    name = tag.name;
    empty = shape.empty;
    is = record { opening = opens_so (drop 1 text) tag (tag_front (drop 1 text) tag behind.named); attributes = stands.well; gap = stands.white; closing = shape.closing };
    cut = stands.cut ∙ ap (λ r. head_bytes (head_with (opening_of tag) (walk_at kinds.Element tag.rest) found.1.0) ++ r) (ap (λ x. x.1) same);
    attributes = found.0;
    reads = attributes_are setting file (spot_after spot (opening_of behind.tag)) (walk_at kinds.Element behind.tag.rest).attributes found.0 read.values;
    piece_is = sym (ap (λ x. x.0) same) ∙ shape.piece (record { prefix = tag.prefix; name = tag.name; attributes = found.0 });
  }
    where
      tag : TagName
      tag = behind.tag

      bind : Bound (attributes_at setting file spot (spot_after spot (opening_of behind.tag)) kinds.Element behind.tag.rest) (λ found. Ok (made behind.tag found)) (piece, rest)
      bind = bound (attributes_at setting file spot (spot_after spot (opening_of behind.tag)) kinds.Element behind.tag.rest) (λ found. Ok (made behind.tag found)) (piece, rest) (sym start_is ∙ is)

      found : List Attribute × (HeadEnd × List ℕ)
      found = bind.value

      read : AttributesRead setting file (spot_after spot (opening_of tag)) kinds.Element tag.rest found
      read = attributes_ok setting file spot (spot_after spot (opening_of tag)) kinds.Element tag.rest found bind.is

      stands : StandingHead kinds.Element text (head_with (opening_of tag) (walk_at kinds.Element tag.rest) found.1.0) found.1.0 found.1.1
      stands = head_stands setting file spot kinds.Element IsStartOpening IsElementClosing known closes one_rest text (opening_of tag) tag.rest found.1 (start_front text behind).cut read.end

      shape : Shape found.1.0
      shape = shape_of found.1.0 stands.closes_head

      same : made tag found ≡ (piece, rest)
      same = ok_same bind.then

  start_begins : (found : Piece × List ℕ) → start_at setting file spot text ≡ Ok found → BeginsHead IsStart text
  start_begins found is =
      let s = start_stands found.0 found.1 is in
      record { head = s.head; is = record { opening = (s.prefix, s.name, s.is.opening); attributes = s.is.attributes; gap = s.is.gap; closing = (s.empty, s.is.closing) }; rest = found.1; cut = s.cut }

  -- what stands there is read
  pub start_is_read : (piece : Piece) (rest : List ℕ) → IsStartAt setting file spot text piece rest → start_at setting file spot text ≡ Ok (piece, rest)
  start_is_read piece rest s =
      start_is
      ∙ ap (λ r. r >>= (λ found. Ok (made behind.tag found))) (whole_attributes setting file spot kinds.Element IsStartOpening IsElementClosing known closes one_rest text (opening_of behind.tag) behind.tag.rest (start_front text behind) s.head rest s.attributes whole s.reads)
      ∙ ap (λ p. Ok (p, rest)) (ap (λ t. start_piece whole.end (record { prefix = t.prefix; name = t.name; attributes = s.attributes })) names ∙ shape_is whole.end s.empty _ (sym whole.closing_is ∙ s.is.closing) ∙ sym s.piece_is)
    where
      is_start : IsStart s.head
      is_start = record { opening = (s.prefix, s.name, s.is.opening); attributes = s.is.attributes; gap = s.is.gap; closing = (s.empty, s.is.closing) }

      whole : WholeHead kinds.Element s.head (opening_of behind.tag) behind.tag.rest rest
      whole = whole_head setting file spot kinds.Element IsStartOpening IsElementClosing known closes one_rest text (opening_of behind.tag) behind.tag.rest (start_front text behind) s.head is_start rest s.cut

      names : tag_with behind.tag.prefix behind.tag.name [] ≡ tag_with s.prefix s.name []
      names = same_names (opening_of behind.tag) s.head.opening behind.tag.prefix behind.tag.name s.prefix s.name whole.opening_is (opens_so (drop 1 text) behind.tag (tag_front (drop 1 text) behind.tag behind.named)) s.is.opening

  -- why nothing is read
  pub start_breaks : (fault : Break) → start_at setting file spot text ≡ Err fault → IsBreakAt (Some marks.Start) setting file spot text fault
  start_breaks fault is =
      attributes_break setting file spot kinds.Element IsStartOpening IsElementClosing known closes one_rest text (opening_of behind.tag) behind.tag.rest fault (start_front text behind)
      (bind_err (attributes_at setting file spot (spot_after spot (opening_of behind.tag)) kinds.Element behind.tag.rest) (made behind.tag) fault (sym start_is ∙ is))

  -- the fault of a value is the fault of the reading
  start_bad : (fault : Break) → HasBadValue setting file spot IsStartOpening text fault → start_at setting file spot text ≡ Err fault
  unfolding attributes_at
  start_bad fault bad =
      start_is ∙ ap (λ r. attributes_read spot r (walk_at kinds.Element behind.tag.rest).end >>= (λ found. Ok (made behind.tag found)))
      (bad_value_found setting file spot kinds.Element IsStartOpening IsElementClosing known closes one_rest text (opening_of behind.tag) behind.tag.rest fault (start_front text behind) bad)

  pub start_break_is_read : (fault : Break) → IsBreakAt (Some marks.Start) setting file spot text fault → start_at setting file spot text ≡ Err fault
  start_break_is_read fault is = break_back (start_at setting file spot text) (HasBadValue setting file spot IsStartOpening text) IsStart spot text start_begins start_breaks start_bad fault is
