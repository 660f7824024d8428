-- A directive as it is read is a directive as it is written.
use Rattle.std.proofs.Common.{◌≡◌, ℕ, ◌-◌, inl, inr, Bool, true, false, cond, Option, Some, None, Result, Ok, Err, List, [], ◌∷◌, ◌++◌, length, drop, take, codes, refl, sym, ap, ◌∙◌, subst, append_assoc, append-nil}
use Rattle.page_pieces.specs.declared.setting.Setting.{Setting}
use Rattle.page_pieces.specs.declared.attribute.Attribute.{Attribute}
use Rattle.page_pieces.specs.declared.mark.Mark.TheVariants as marks
use Rattle.page_pieces.specs.declared.spot.Spot.{Spot}
use Rattle.page_pieces.specs.declared.piece.Piece.{Piece}
use Rattle.page_pieces.specs.declared.piece.Piece.TheVariants as pieces
use Rattle.page_pieces.specs.declared.piece.Leaf.TheVariants as leaves
use Rattle.page_pieces.specs.declared.piece.Break.{Break}
use Rattle.page_pieces.specs.declared.head.HeadEnd.{HeadEnd}
use Rattle.page_pieces.specs.declared.head.Misread.{Misread}
use Rattle.page_pieces.specs.declared.head.HeadEnd.TheVariants as ends
use Rattle.page_pieces.specs.declared.head.HeadKind.TheVariants as kinds
use Rattle.page_pieces.specs.declared.head.Misread.TheVariants.{Malformed}
use Rattle.page_pieces.specs.Names.{IsName, is_white, is_name_start, is_name_byte, white_front, behind_white}
use Rattle.page_pieces.specs.Spots.{spot_after}
use Rattle.page_pieces.specs.Marks.{name_at}
use Rattle.page_pieces.specs.Texts.{begins}
use Rattle.page_pieces.specs.Tags.{attributes_bytes, head_bytes, OpensDirective, ClosesDirective, IsDirectiveOpening, IsDirective, BeginsHead, CouldBeHead}
use Rattle.page_pieces.specs.Pieces.{IsDirectiveAt}
use Rattle.page_pieces.specs.Breaks.{IsBreakAt, IsUnreadHead, HasBadValue}
use Rattle.page_pieces.specs.ReadHead.{◌>>=◌, map_err, misread, or_misread, name_read, unread, attributes_read, attributes_at, closing_bytes, walk_at, directive_at}
use Rattle.page_pieces.proofs.AtFront.Longest.{Stops, IsFront, front_is, front_all, front_stops, front_cut}
use Rattle.page_pieces.proofs.AtFront.Names.{name_by, name_with, start_is_no_mark}
use Rattle.page_pieces.proofs.AtFront.Marks.{begins_cut}
use Rattle.page_pieces.proofs.Heads.Attributes.{Bound, bound, ok_same, not_both, read_name, name_is_read, NameBegins, name_begins}
use Rattle.page_pieces.proofs.Heads.Walks.{ClosesHead}
use Rattle.page_pieces.proofs.Heads.Fronts.{HeadFront, KnownClosing, WholeHead, StandingHead, head_with, AttributesRead, attributes_ok, taken_opening, bad_front, bad_value_found, head_front, tail_of, head_stands, whole_head, whole_attributes, attributes_break}
use Rattle.page_pieces.proofs.AttributeValues.Meaning.{attributes_are}
use Rattle.page_pieces.proofs.Heads.Breaks.{break_back, bind_err, err_same}

-- the name of an opening that stands at the front of a text
opened : (text opening rest name : List ℕ) → OpensDirective name opening → text ≡ opening ++ rest → Stops is_name_byte rest → name_read (behind_white (drop 3 text)) ≡ Ok (name, rest)
opened text opening rest name opens cut stops =
    ap (λ t. name_read (behind_white (drop 3 t))) (cut ∙ ap (λ o. o ++ rest) opens.is ∙ ap (λ t. 60 ∷ 37 ∷ 64 ∷ t) (append_assoc opens.gap name rest))
    ∙ ap name_read front.left
    ∙ name_is_read name rest opens.named stops
  where
    first : NameBegins (name ++ rest)
    first = name_begins name rest opens.named

    front : IsFront is_white (opens.gap ++ (name ++ rest)) opens.gap (name ++ rest)
    front = front_is is_white opens.gap (name ++ rest) opens.white (subst (Stops is_white) (sym first.is) (start_is_no_mark first.first first.starts).white)

one_rest : (text one rest other more : List ℕ) → HeadFront IsDirectiveOpening text one rest → HeadFront IsDirectiveOpening text other more → rest ≡ more
one_rest text one rest other more front front2 =
    ap (λ n. n.1) (ok_same (sym (opened text one rest front.opens.0 front.opens.1 front.cut front.stops) ∙ opened text other more front2.opens.0 front2.opens.1 front2.cut front2.stops))

known : (closing : List ℕ) → ClosesDirective closing → KnownClosing kinds.Directive closing
known closing is = record { end = ends.Directive; closes = tt; is = is }

closes : (end : HeadEnd) → ClosesHead kinds.Directive end → ClosesDirective (closing_bytes end)
closes ends.Directive is = refl
closes ends.Start is = absurd is
closes ends.Empty is = absurd is

-- the opening with this name
abbrev opening_of : List ℕ → List ℕ → List ℕ
opening_of text name = codes "<%@" ++ (white_front (drop 3 text) ++ name)

opens_so : (text name : List ℕ) → IsName name → OpensDirective name (opening_of text name)
opens_so text name named = record { gap = white_front (drop 3 text); white = front_all is_white (drop 3 text); named = named; is = refl }

directive_front : (text : List ℕ) → begins (codes "<%@") text ≡ true → (found : List ℕ × List ℕ) → name_read (behind_white (drop 3 text)) ≡ Ok found → HeadFront IsDirectiveOpening text (opening_of text found.0) found.1
directive_front text stands found is =
    let name = read_name (behind_white (drop 3 text)) found is in
    record {
      opens = (found.0, opens_so text found.0 name.named);
      cut =
          begins_cut (codes "<%@") text stands
          ∙ ap (λ t. 60 ∷ 37 ∷ 64 ∷ t) (front_cut is_white (drop 3 text) ∙ ap (λ t. white_front (drop 3 text) ++ t) name.cut ∙ sym (append_assoc (white_front (drop 3 text)) found.0 found.1));
      stops = name.stops;
    }

-- why no name is read
name_misread : (text : List ℕ) (fault : Misread) → name_read text ≡ Err fault → fault ≡ misread text
name_misread text fault is = go (name_at text) is
  where
    go : (o : Option (List ℕ × List ℕ)) → or_misread text o ≡ Err fault → fault ≡ misread text
    go None is = cc
    go (Some found) is = cc

-- no name stands there, whatever follows
still_misread : (b : ℕ) (bytes more : List ℕ) (found : List ℕ × List ℕ) → name_read (b ∷ bytes) ≡ Err Malformed → name_read (b ∷ (bytes ++ more)) ≡ Ok found → ⊥
still_misread b bytes more found is other = go (is_name_start b) (sym (ap (or_misread (b ∷ bytes)) (name_by b bytes)) ∙ is) (sym (ap (or_misread (b ∷ (bytes ++ more))) (name_by b (bytes ++ more))) ∙ other)
  where
    go : (starts : Bool) → or_misread (b ∷ bytes) (cond starts (Some (name_with b bytes)) None) ≡ Err Malformed → or_misread (b ∷ (bytes ++ more)) (cond starts (Some (name_with b (bytes ++ more))) None) ≡ Ok found → ⊥
    go true is other = not_both (sym is)
    go false is other = not_both other

module _ (setting : Setting) (file : List ℕ) (spot : Spot) (text : List ℕ) (stands : begins (codes "<%@") text ≡ true) where
  -- where no name is read, no opening stands, no value is at fault, and no directive is whole
  no_opening : (fault : Misread) → name_read (behind_white (drop 3 text)) ≡ Err fault → (opening rest : List ℕ) → HeadFront IsDirectiveOpening text opening rest → ⊥
  no_opening fault is opening rest front = not_both (sym is ∙ opened text opening rest front.opens.0 front.opens.1 front.cut front.stops)

  no_bad : (fault : Misread) → name_read (behind_white (drop 3 text)) ≡ Err fault → (other : Break) → ¬ (HasBadValue setting file spot IsDirectiveOpening text other)
  no_bad fault is other bad = no_opening fault is bad.opening _ (bad_front setting file spot kinds.Directive IsDirectiveOpening ClosesDirective known closes one_rest text other bad)

  no_directive_yet : (fault : Misread) → name_read (behind_white (drop 3 text)) ≡ Err fault → ¬ (BeginsHead IsDirective text)
  no_directive_yet fault is begun = no_opening fault is begun.head.opening _ (head_front setting file spot kinds.Directive IsDirectiveOpening ClosesDirective known closes one_rest text begun.head begun.is begun.rest begun.cut)

  -- a directive whose name is still to come
  could_be_directive : behind_white (drop 3 text) ≡ [] → CouldBeHead IsDirective text
  could_be_directive is = record {
    more = codes "a%>";
    begins = record {
      head = record { opening = opening_of text (codes "a"); attributes = []; gap = []; closing = codes "%>" };
      is = record { opening = (codes "a", opens_so text (codes "a") refl); attributes = tt; gap = refl; closing = refl };
      rest = [];
      cut =
          ap (λ t. t ++ codes "a%>") (begins_cut (codes "<%@") text stands ∙ ap (λ t. 60 ∷ 37 ∷ 64 ∷ t) (front_cut is_white (drop 3 text) ∙ ap (λ t. white_front (drop 3 text) ++ t) is ∙ append-nil (white_front (drop 3 text))))
          ∙ ap (λ t. 60 ∷ 37 ∷ 64 ∷ t) (sym (append_assoc (white_front (drop 3 text)) (codes "a") (codes "%>")) ∙ sym (append-nil ((white_front (drop 3 text) ++ codes "a") ++ codes "%>")));
    };
  }

  -- another byte stands where the name of a directive has to begin
  no_directive : (b : ℕ) (bytes : List ℕ) → behind_white (drop 3 text) ≡ b ∷ bytes → name_read (behind_white (drop 3 text)) ≡ Err Malformed → ¬ (CouldBeHead IsDirective text)
  no_directive b bytes at is could =
      still_misread b bytes could.more (front.opens.0, tail) (ap name_read (sym at) ∙ is)
      (ap name_read (sym behind.left) ∙ ap (λ t. name_read (behind_white (drop 3 t))) (sym text_is) ∙ opened (text ++ could.more) could.begins.head.opening tail front.opens.0 front.opens.1 front.cut front.stops)
    where
      tail : List ℕ
      tail = tail_of setting file spot kinds.Directive IsDirectiveOpening ClosesDirective known closes one_rest could.begins.head could.begins.is could.begins.rest

      front : HeadFront IsDirectiveOpening (text ++ could.more) could.begins.head.opening tail
      front = head_front setting file spot kinds.Directive IsDirectiveOpening ClosesDirective known closes one_rest (text ++ could.more) could.begins.head could.begins.is could.begins.rest could.begins.cut

      behind : IsFront is_white (white_front (drop 3 text) ++ b ∷ (bytes ++ could.more)) (white_front (drop 3 text)) (b ∷ (bytes ++ could.more))
      behind = front_is is_white (white_front (drop 3 text)) (b ∷ (bytes ++ could.more)) (front_all is_white (drop 3 text)) (subst (Stops is_white) at (front_stops is_white (drop 3 text)))

      text_is : text ++ could.more ≡ 60 ∷ 37 ∷ 64 ∷ (white_front (drop 3 text) ++ b ∷ (bytes ++ could.more))
      text_is =
          ap (λ t. t ++ could.more) (begins_cut (codes "<%@") text stands ∙ ap (λ t. 60 ∷ 37 ∷ 64 ∷ t) (front_cut is_white (drop 3 text) ∙ ap (λ t. white_front (drop 3 text) ++ t) at))
          ∙ ap (λ t. 60 ∷ 37 ∷ 64 ∷ t) (append_assoc (white_front (drop 3 text)) (b ∷ bytes) could.more)

  -- no name is read
  nameless : (fault : Misread) → name_read (behind_white (drop 3 text)) ≡ Err fault → IsUnreadHead IsDirective spot text (unread spot fault)
  nameless fault is = go (behind_white (drop 3 text)) refl (name_misread (behind_white (drop 3 text)) fault is)
    where
      go : (t : List ℕ) → behind_white (drop 3 text) ≡ t → fault ≡ misread t → IsUnreadHead IsDirective spot text (unread spot fault)
      go [] at same = inl (no_directive_yet fault is, could_be_directive at, ap (unread spot) same)
      go (b ∷ bytes) at same = inr (no_directive b bytes at (is ∙ ap Err same), ap (unread spot) same)

  -- the piece that is made of the name and the attributes, with what follows
  abbrev made : List ℕ → List Attribute × (HeadEnd × List ℕ) → Piece × List ℕ
  made name found = (pieces.Leaf (leaves.Directive name found.0), found.1.1)

  attributes_behind : List ℕ × List ℕ → Result (List Attribute × (HeadEnd × List ℕ)) Break
  attributes_behind name = attributes_at setting file spot (spot_after spot (opening_of text name.0)) kinds.Directive name.1

  directive_is : (name : List ℕ × List ℕ) → name_read (behind_white (drop 3 text)) ≡ Ok name → directive_at setting file spot text ≡ (attributes_behind name >>= (λ found. Ok (made name.0 found)))
  unfolding directive_at attributes_behind
  directive_is name is =
      ap (λ r. map_err (unread spot) r >>= (λ name.
      (attributes_at setting file spot (spot_after spot (take (length text - length name.1) text)) kinds.Directive name.1) >>= (λ found. Ok (made name.0 found)))) is
      ∙ ap (λ o. (attributes_at setting file spot (spot_after spot o) kinds.Directive name.1) >>= (λ found. Ok (made name.0 found)))
      (taken_opening text (opening_of text name.0) name.1 (directive_front text stands name is).cut)

  directive_unread : (fault : Misread) → name_read (behind_white (drop 3 text)) ≡ Err fault → directive_at setting file spot text ≡ Err (unread spot fault)
  unfolding directive_at
  directive_unread fault is =
      ap (λ r. map_err (unread spot) r >>= (λ name.
      (attributes_at setting file spot (spot_after spot (take (length text - length name.1) text)) kinds.Directive name.1) >>= (λ found. Ok (made name.0 found)))) is

  -- what is read stands there
  behind_name : (name : List ℕ × List ℕ) → name_read (behind_white (drop 3 text)) ≡ Ok name → (piece : Piece) (rest : List ℕ) → directive_at setting file spot text ≡ Ok (piece, rest) → IsDirectiveAt setting file spot text piece rest
  unfolding attributes_behind
  behind_name name name_is piece rest is = record {
    head = head_with (opening_of text name.0) (walk_at kinds.Directive name.1) found.1.0;
    name = name.0;
    is = record { opening = opens_so text name.0 (read_name (behind_white (drop 3 text)) name name_is).named; attributes = stands_so.well; gap = stands_so.white; closing = closes found.1.0 stands_so.closes_head };
    cut = stands_so.cut ∙ ap (λ r. head_bytes (head_with (opening_of text name.0) (walk_at kinds.Directive name.1) found.1.0) ++ r) (ap (λ x. x.1) same);
    attributes = found.0;
    reads = attributes_are setting file (spot_after spot (opening_of text name.0)) (walk_at kinds.Directive name.1).attributes found.0 read.values;
    piece_is = sym (ap (λ x. x.0) same);
  }
    where
      bind : Bound (attributes_behind name) (λ found. Ok (made name.0 found)) (piece, rest)
      bind = bound (attributes_behind name) (λ found. Ok (made name.0 found)) (piece, rest) (sym (directive_is name name_is) ∙ is)

      found : List Attribute × (HeadEnd × List ℕ)
      found = bind.value

      read : AttributesRead setting file (spot_after spot (opening_of text name.0)) kinds.Directive name.1 found
      read = attributes_ok setting file spot (spot_after spot (opening_of text name.0)) kinds.Directive name.1 found bind.is

      stands_so : StandingHead kinds.Directive text (head_with (opening_of text name.0) (walk_at kinds.Directive name.1) found.1.0) found.1.0 found.1.1
      stands_so = head_stands setting file spot kinds.Directive IsDirectiveOpening ClosesDirective known closes one_rest text (opening_of text name.0) name.1 found.1 (directive_front text stands name name_is).cut read.end

      same : made name.0 found ≡ (piece, rest)
      same = ok_same bind.then

  pub directive_stands : (piece : Piece) (rest : List ℕ) → directive_at setting file spot text ≡ Ok (piece, rest) → IsDirectiveAt setting file spot text piece rest
  directive_stands piece rest is = go (name_read (behind_white (drop 3 text))) refl
    where
      go : (r : Result (List ℕ × List ℕ) Misread) → name_read (behind_white (drop 3 text)) ≡ r → IsDirectiveAt setting file spot text piece rest
      go (Ok name) name_is = behind_name name name_is piece rest is
      go (Err fault) name_is = absurd (not_both (sym (directive_unread fault name_is) ∙ is))

  directive_begins : (found : Piece × List ℕ) → directive_at setting file spot text ≡ Ok found → BeginsHead IsDirective text
  directive_begins found is =
      let d = directive_stands found.0 found.1 is in
      record { head = d.head; is = record { opening = (d.name, d.is.opening); attributes = d.is.attributes; gap = d.is.gap; closing = d.is.closing }; rest = found.1; cut = d.cut }

  -- what stands there is read
  pub directive_is_read : (piece : Piece) (rest : List ℕ) → IsDirectiveAt setting file spot text piece rest → directive_at setting file spot text ≡ Ok (piece, rest)
  unfolding attributes_behind
  directive_is_read piece rest d =
      directive_is (d.name, tail) name_is
      ∙ ap (λ r. r >>= (λ found. Ok (made d.name found)))
      (whole_attributes setting file spot kinds.Directive IsDirectiveOpening ClosesDirective known closes one_rest text (opening_of text d.name) tail (directive_front text stands (d.name, tail) name_is) d.head rest d.attributes whole d.reads)
      ∙ ap (λ p. Ok (p, rest)) (sym d.piece_is)
    where
      is_directive : IsDirective d.head
      is_directive = record { opening = (d.name, d.is.opening); attributes = d.is.attributes; gap = d.is.gap; closing = d.is.closing }

      tail : List ℕ
      tail = tail_of setting file spot kinds.Directive IsDirectiveOpening ClosesDirective known closes one_rest d.head is_directive rest

      front : HeadFront IsDirectiveOpening text d.head.opening tail
      front = head_front setting file spot kinds.Directive IsDirectiveOpening ClosesDirective known closes one_rest text d.head is_directive rest d.cut

      name_is : name_read (behind_white (drop 3 text)) ≡ Ok (d.name, tail)
      name_is = opened text d.head.opening tail d.name d.is.opening front.cut front.stops

      whole : WholeHead kinds.Directive d.head (opening_of text d.name) tail rest
      whole = whole_head setting file spot kinds.Directive IsDirectiveOpening ClosesDirective known closes one_rest text (opening_of text d.name) tail (directive_front text stands (d.name, tail) name_is) d.head is_directive rest d.cut

  -- why nothing is read
  breaks_behind : (name : List ℕ × List ℕ) → name_read (behind_white (drop 3 text)) ≡ Ok name → (fault : Break) → directive_at setting file spot text ≡ Err fault → IsBreakAt (Some marks.Directive) setting file spot text fault
  unfolding attributes_behind
  breaks_behind name name_is fault is =
      attributes_break setting file spot kinds.Directive IsDirectiveOpening ClosesDirective known closes one_rest text (opening_of text name.0) name.1 fault (directive_front text stands name name_is)
      (bind_err (attributes_behind name) (made name.0) fault (sym (directive_is name name_is) ∙ is))

  pub directive_breaks : (fault : Break) → directive_at setting file spot text ≡ Err fault → IsBreakAt (Some marks.Directive) setting file spot text fault
  directive_breaks fault is = go (name_read (behind_white (drop 3 text))) refl
    where
      go : (r : Result (List ℕ × List ℕ) Misread) → name_read (behind_white (drop 3 text)) ≡ r → IsBreakAt (Some marks.Directive) setting file spot text fault
      go (Ok name) name_is = breaks_behind name name_is fault is
      go (Err misread_so) name_is =
          let same : unread spot misread_so ≡ fault = err_same (sym (directive_unread misread_so name_is) ∙ is) in
          inr (no_bad misread_so name_is, subst (IsUnreadHead IsDirective spot text) same (nameless misread_so name_is))

  -- the fault of a value is the fault of the reading
  directive_bad : (fault : Break) → HasBadValue setting file spot IsDirectiveOpening text fault → directive_at setting file spot text ≡ Err fault
  unfolding attributes_at attributes_behind
  directive_bad fault bad =
      directive_is (bad.opens.0, tail) name_is
      ∙ ap (λ r. (attributes_read spot r (walk_at kinds.Directive tail).end) >>= (λ found. Ok (made bad.opens.0 found)))
      (bad_value_found setting file spot kinds.Directive IsDirectiveOpening ClosesDirective known closes one_rest text (opening_of text bad.opens.0) tail fault (directive_front text stands (bad.opens.0, tail) name_is) bad)
    where
      tail : List ℕ
      tail = attributes_bytes bad.attributes ++ bad.rest

      front : HeadFront IsDirectiveOpening text bad.opening tail
      front = bad_front setting file spot kinds.Directive IsDirectiveOpening ClosesDirective known closes one_rest text fault bad

      name_is : name_read (behind_white (drop 3 text)) ≡ Ok (bad.opens.0, tail)
      name_is = opened text bad.opening tail bad.opens.0 bad.opens.1 front.cut front.stops

  pub directive_break_is_read : (fault : Break) → IsBreakAt (Some marks.Directive) setting file spot text fault → directive_at setting file spot text ≡ Err fault
  directive_break_is_read fault is = break_back (directive_at setting file spot text) (HasBadValue setting file spot IsDirectiveOpening text) IsDirective spot text directive_begins directive_breaks directive_bad fault is
