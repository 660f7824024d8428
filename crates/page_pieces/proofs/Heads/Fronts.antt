-- A head whose opening stands at the front of a text: its values and its end are those that the walk finds.
use Rattle.std.proofs.Common.{◌≡◌, ℕ, ◌-◌, ◌<◌, ◌⊎◌, inl, inr, Result, Ok, Err, List, [], ◌∷◌, ◌++◌, length, take, refl, sym, ap, ◌∙◌, subst, arith, append_assoc, length-append}
use Rattle.std.proofs.Math.Seq.{take-append_seam}
use Rattle.std.specs.List.{list_all}
use Rattle.std.proofs.lemmas.List.{append_cancel_right}
use Rattle.std.proofs.lemmas.Bool.{and_parts}
use Rattle.pg_text.specs.declared.translation_fault.TranslationFault.TheVariants as faults
use Rattle.page_pieces.specs.declared.setting.Setting.{Setting}
use Rattle.page_pieces.specs.declared.attribute.Attribute.{Attribute}
use Rattle.page_pieces.specs.declared.spot.Spot.{Spot}
use Rattle.page_pieces.specs.declared.piece.Break.{Break}
use Rattle.page_pieces.specs.declared.piece.Break.TheVariants.{Fault}
use Rattle.page_pieces.specs.declared.head.HeadEnd.{HeadEnd}
use Rattle.page_pieces.specs.declared.head.HeadKind.{HeadKind}
use Rattle.page_pieces.specs.declared.head.Misread.{Misread}
use Rattle.page_pieces.specs.declared.head.HeadEnd.TheVariants as ends
use Rattle.page_pieces.specs.declared.head.Misread.TheVariants.{CutOff, Malformed}
use Rattle.page_pieces.specs.Names.{IsWhite, is_white, is_name_byte}
use Rattle.page_pieces.specs.Spots.{spot_after}
use Rattle.page_pieces.specs.Tags.{AreAttributes, WrittenAttribute, IsWellFormed, AreWellFormed, attribute_bytes, attributes_bytes, WrittenHead, head_bytes, IsHead, BeginsHead, CouldBeHead}
use Rattle.page_pieces.specs.ReadValue.{attribute_of, attributes_of, attribute_first}
use Rattle.page_pieces.specs.Breaks.{HasBadValue, IsUnreadHead}
use Rattle.page_pieces.specs.ReadHead.{Walk, walk_at, closing_bytes, attributes_read, attributes_at}
use Rattle.page_pieces.proofs.AtFront.Longest.{Stops}
use Rattle.page_pieces.proofs.AtFront.Names.{white_no_name}
use Rattle.page_pieces.proofs.Heads.Attributes.{not_both, spelled_is}
use Rattle.page_pieces.proofs.Heads.Walks.{ClosesHead, walk_stands, walk_goes_on, walk_is_whole}
use Rattle.page_pieces.proofs.Heads.Steps.{head_of, Between, run, stays_malformed, Completed, completed}
use Rattle.page_pieces.proofs.Heads.WalkRuns.{walk_is_run}
use Rattle.page_pieces.proofs.AttributeValues.Meaning.{attributes_of_read, first_fault, first_fault_read}

-- behind a name stands no byte of a name, where an attribute or the end of a head stands there
attribute_stops : (a : WrittenAttribute) (rest : List ℕ) → IsWellFormed a → Stops is_name_byte (attribute_bytes a ++ rest)
attribute_stops a rest well = subst (Stops is_name_byte) (sym (spelled_is a rest)) (go a.gap _ well.gap well.parted)
  where
    go : (gap rest : List ℕ) → IsWhite gap → 0 < length gap → Stops is_name_byte (gap ++ rest)
    go [] rest white parted = absurd (omega arith)
    go (b ∷ gap) rest white parted = white_no_name b (and_parts (is_white b) (list_all is_white gap) white).0

pub attributes_stop : (attributes : List WrittenAttribute) (rest : List ℕ) → AreWellFormed attributes → Stops is_name_byte rest → Stops is_name_byte (attributes_bytes attributes ++ rest)
attributes_stop [] rest well stops = stops
attributes_stop (a ∷ attributes) rest well stops = subst (Stops is_name_byte) (sym (append_assoc (attribute_bytes a) (attributes_bytes attributes) rest)) (attribute_stops a (attributes_bytes attributes ++ rest) well.0)

pub gap_stops : (gap : List ℕ) (end : HeadEnd) (rest : List ℕ) → IsWhite gap → Stops is_name_byte (gap ++ (closing_bytes end ++ rest))
gap_stops [] ends.Directive rest white = refl
gap_stops [] ends.Start rest white = refl
gap_stops [] ends.Empty rest white = refl
gap_stops (b ∷ gap) end rest white = white_no_name b (and_parts (is_white b) (list_all is_white gap) white).0

module _ (setting : Setting) (file : List ℕ) where
  -- a fault among the first attributes is the fault of all
  faulty_front : (spot : Spot) (attributes more : List WrittenAttribute) (fault : Break) → attributes_of setting file spot attributes ≡ Err fault → attributes_of setting file spot (attributes ++ more) ≡ Err fault
  faulty_front spot [] more fault is = cc
  faulty_front spot (a ∷ attributes) more fault is =
      go (attribute_of setting file spot a) (attributes_of setting file (spot_after spot (attribute_bytes a)) attributes) (attributes_of setting file (spot_after spot (attribute_bytes a)) (attributes ++ more)) is (faulty_front (spot_after spot (attribute_bytes a)) attributes more fault)
    where
      go : (first : Result Attribute Break) (then all : Result (List Attribute) Break) → attribute_first first then ≡ Err fault → (then ≡ Err fault → all ≡ Err fault) → attribute_first first all ≡ Err fault
      go (Err other) then all is rec = is
      go (Ok a) (Err other) all is rec = ap (attribute_first (Ok a)) (rec is)
      go (Ok a) (Ok found) all is rec = cc

-- an opening stands at the front of a text, and its name goes no further
pub record HeadFront (IsOpening : List ℕ → Type 0) (text opening rest : List ℕ) : Type 0 where
  pub opens : IsOpening opening
  pub cut : text ≡ opening ++ rest
  pub stops : Stops is_name_byte rest

-- what closes a head is known by its bytes
pub record KnownClosing (kind : HeadKind) (closing : List ℕ) : Type 0 where
  pub end : HeadEnd
  pub closes : ClosesHead kind end
  pub is : closing ≡ closing_bytes end

-- what the walk finds behind an opening is this head, and this rest follows
pub record WholeHead (kind : HeadKind) (head : WrittenHead) (opening text rest : List ℕ) : Type 0 where
  pub end : HeadEnd
  pub closing_is : head.closing ≡ closing_bytes end
  pub opening_is : opening ≡ head.opening
  pub walk_is : walk_at kind text ≡ record { attributes = head.attributes; gap = head.gap; end = Ok (end, rest) }

-- the head that the walk finds
abbrev pub head_with : List ℕ → Walk → HeadEnd → WrittenHead
head_with opening walk end = record { opening = opening; attributes = walk.attributes; gap = walk.gap; closing = closing_bytes end }

-- the head that the walk finds stands there
pub record StandingHead (kind : HeadKind) (text : List ℕ) (head : WrittenHead) (end : HeadEnd) (rest : List ℕ) : Type 0 where
  pub well : AreWellFormed head.attributes
  pub white : IsWhite head.gap
  pub closes_head : ClosesHead kind end
  pub cut : text ≡ head_bytes head ++ rest

-- the bytes of a head and what follows it
head_cut : (head : WrittenHead) (rest : List ℕ) → head_bytes head ++ rest ≡ head.opening ++ (attributes_bytes head.attributes ++ (head.gap ++ (head.closing ++ rest)))
head_cut head rest = simp append_assoc

-- what the walk has found, where the attributes of a head are read
pub record AttributesRead (setting : Setting) (file : List ℕ) (from : Spot) (kind : HeadKind) (text : List ℕ) (found : List Attribute × (HeadEnd × List ℕ)) : Type 0 where
  pub values : attributes_of setting file from (walk_at kind text).attributes ≡ Ok found.0
  pub end : (walk_at kind text).end ≡ Ok found.1

pub attributes_ok : (setting : Setting) (file : List ℕ) (spot from : Spot) (kind : HeadKind) (text : List ℕ) (found : List Attribute × (HeadEnd × List ℕ)) → attributes_at setting file spot from kind text ≡ Ok found → AttributesRead setting file from kind text found
unfolding attributes_at
attributes_ok setting file spot from kind text found is = go (attributes_of setting file from (walk_at kind text).attributes) refl (walk_at kind text).end refl is
  where
    go : (values : Result (List Attribute) Break) → attributes_of setting file from (walk_at kind text).attributes ≡ values → (end : Result (HeadEnd × List ℕ) Misread) → (walk_at kind text).end ≡ end → attributes_read spot values end ≡ Ok found → AttributesRead setting file from kind text found
    go (Err other) values_is end end_is is = cc
    go (Ok values) values_is (Err fault) end_is is = cc
    go (Ok values) values_is (Ok end) end_is is =
        let same : ◌≡◌ {A = List Attribute × (HeadEnd × List ℕ)} (values, end) found = cc in
        record { values = values_is ∙ ap Ok (ap (λ f. f.0) same); end = end_is ∙ ap Ok (ap (λ f. f.1) same) }

-- the opening is what stands before the rest
pub taken_opening : (text opening rest : List ℕ) → text ≡ opening ++ rest → take (length text - length rest) text ≡ opening
taken_opening text opening rest cut =
    let size : length text - length rest ≡ length opening = omega (arith, ap length cut, length-append opening rest) in
    (λ i. take (size i) (cut i)) ∙ take-append_seam opening rest

module _ (setting : Setting) (file : List ℕ) (spot : Spot) (kind : HeadKind) (IsOpening IsClosing : List ℕ → Type 0)
    (known : (closing : List ℕ) → IsClosing closing → KnownClosing kind closing)
    (closes : (end : HeadEnd) → ClosesHead kind end → IsClosing (closing_bytes end))
    (one_rest : (text one rest other more : List ℕ) → HeadFront IsOpening text one rest → HeadFront IsOpening text other more → rest ≡ more)
  where
    -- one opening stands at the front of a text
    one_opening : (text one rest other more : List ℕ) → HeadFront IsOpening text one rest → HeadFront IsOpening text other more → one ≡ other
    one_opening text one rest other more front front2 =
        append_cancel_right one other more (ap (λ r. one ++ r) (sym (one_rest text one rest other more front front2)) ∙ sym front.cut ∙ front2.cut)

    -- a faulty value that the walk finds
    pub bad_value : (text opening rest : List ℕ) (fault : Break) → HeadFront IsOpening text opening rest → attributes_of setting file (spot_after spot opening) (walk_at kind rest).attributes ≡ Err fault → HasBadValue setting file spot IsOpening text fault
    bad_value text opening rest fault front is =
        let walk = walk_stands kind rest in
        record {
          opening = opening;
          opens = front.opens;
          attributes = (walk_at kind rest).attributes;
          well_formed = walk.well;
          rest = walk.behind;
          cut = front.cut ∙ ap (λ r. opening ++ r) walk.cut;
          reads = first_fault setting file (spot_after spot opening) (walk_at kind rest).attributes fault is;
        }

    -- a faulty value stands behind an opening
    pub bad_front : (text : List ℕ) (fault : Break) (bad : HasBadValue setting file spot IsOpening text fault) → HeadFront IsOpening text bad.opening (attributes_bytes bad.attributes ++ bad.rest)
    bad_front text fault bad = record { opens = bad.opens; cut = bad.cut; stops = some bad.attributes bad.rest bad.well_formed (first_fault_read setting file (spot_after spot bad.opening) bad.attributes fault bad.reads) }
      where
        some : (attributes : List WrittenAttribute) (rest : List ℕ) → AreWellFormed attributes → attributes_of setting file (spot_after spot bad.opening) attributes ≡ Err fault → Stops is_name_byte (attributes_bytes attributes ++ rest)
        some [] rest well is = cc
        some (a ∷ attributes) rest well is = subst (Stops is_name_byte) (sym (append_assoc (attribute_bytes a) (attributes_bytes attributes) rest)) (attribute_stops a (attributes_bytes attributes ++ rest) well.0)

    -- a faulty value is found by the walk
    pub bad_value_found : (text opening rest : List ℕ) (fault : Break) → HeadFront IsOpening text opening rest → HasBadValue setting file spot IsOpening text fault → attributes_of setting file (spot_after spot opening) (walk_at kind rest).attributes ≡ Err fault
    unfolding walk_at
    bad_value_found text opening rest fault front bad =
        let rest_is = one_rest text opening rest bad.opening (attributes_bytes bad.attributes ++ bad.rest) front (bad_front text fault bad) in
        let opening_is = one_opening text opening rest bad.opening (attributes_bytes bad.attributes ++ bad.rest) front (bad_front text fault bad) in
        let on = walk_goes_on kind bad.attributes bad.rest bad.well_formed in
        (λ i. attributes_of setting file (spot_after spot (opening_is i)) (walk_at kind (rest_is i)).attributes)
        ∙ ap (λ w. attributes_of setting file (spot_after spot bad.opening) w.attributes) on.is
        ∙ faulty_front setting file (spot_after spot bad.opening) bad.attributes _ fault (first_fault_read setting file (spot_after spot bad.opening) bad.attributes fault bad.reads)

    pub head_stands : (text opening rest : List ℕ) (found : HeadEnd × List ℕ) → text ≡ opening ++ rest → (walk_at kind rest).end ≡ Ok found → StandingHead kind text (head_with opening (walk_at kind rest) found.0) found.0 found.1
    head_stands text opening rest found cut is =
        let walk = walk_stands kind rest in
        let end = walk.ends found is in
        record {
          well = walk.well;
          white = end.white;
          closes_head = end.closes;
          cut = cut ∙ ap (λ r. opening ++ r) (walk.cut ∙ ap (λ r. attributes_bytes (walk_at kind rest).attributes ++ r) end.cut) ∙ sym (head_cut (head_with opening (walk_at kind rest) found.0) found.1);
        }

    -- what follows the opening of a head
    abbrev pub tail_of : (head : WrittenHead) → IsHead IsOpening IsClosing head → List ℕ → List ℕ
    tail_of head is more = attributes_bytes head.attributes ++ (head.gap ++ (closing_bytes (known head.closing is.closing).end ++ more))

    pub head_front : (text : List ℕ) (head : WrittenHead) (is : IsHead IsOpening IsClosing head) (more : List ℕ) → text ≡ head_bytes head ++ more → HeadFront IsOpening text head.opening (tail_of head is more)
    head_front text head is more cut =
        let k = known head.closing is.closing in
        record {
          opens = is.opening;
          cut = cut ∙ head_cut head more ∙ ap (λ c. head.opening ++ (attributes_bytes head.attributes ++ (head.gap ++ (c ++ more)))) k.is;
          stops = attributes_stop head.attributes (head.gap ++ (closing_bytes k.end ++ more)) is.attributes (gap_stops head.gap k.end more is.gap);
        }

    pub whole_head : (text opening rest : List ℕ) → HeadFront IsOpening text opening rest → (head : WrittenHead) → IsHead IsOpening IsClosing head → (more : List ℕ) → text ≡ head_bytes head ++ more → WholeHead kind head opening rest more
    whole_head text opening rest front head is more cut =
        let k = known head.closing is.closing in
        let other = head_front text head is more cut in
        record {
          end = k.end;
          closing_is = k.is;
          opening_is = one_opening text opening rest head.opening (tail_of head is more) front other;
          walk_is = ap (walk_at kind) (one_rest text opening rest head.opening (tail_of head is more) front other) ∙ walk_is_whole kind head.attributes head.gap k.end more is.attributes is.gap k.closes;
        }

    -- the walk comes to the file's end
    pub no_head_yet : (text opening rest : List ℕ) → HeadFront IsOpening text opening rest → (walk_at kind rest).end ≡ Err CutOff → ¬ (BeginsHead (IsHead IsOpening IsClosing) text)
    no_head_yet text opening rest front is begins =
        let whole = whole_head text opening rest front begins.head begins.is begins.rest begins.cut in
        not_both (sym is ∙ ap (λ w. w.end) whole.walk_is)

    pub could_be_head : (text opening rest : List ℕ) → HeadFront IsOpening text opening rest → (walk_at kind rest).end ≡ Err CutOff → CouldBeHead (IsHead IsOpening IsClosing) text
    could_be_head text opening rest front is = record {
      more = c.more;
      begins = record {
        head = head_with opening (walk_at kind (rest ++ c.more)) c.end;
        is = record { opening = front.opens; attributes = stands.well; gap = stands.white; closing = closes c.end stands.closes_head };
        rest = [];
        cut = stands.cut;
      };
    }
      where
        c : Completed (head_of kind) Between rest
        c = completed (head_of kind) Between rest (walk_is_run kind rest ∙ is)

        stands : StandingHead kind (text ++ c.more) (head_with opening (walk_at kind (rest ++ c.more)) c.end) c.end []
        stands = head_stands (text ++ c.more) opening (rest ++ c.more) (c.end, []) (ap (λ t. t ++ c.more) front.cut ∙ append_assoc opening rest c.more) (sym (walk_is_run kind (rest ++ c.more)) ∙ c.is)

    -- the walk comes to a byte that no head has there
    pub no_head : (text opening rest : List ℕ) → HeadFront IsOpening text opening rest → (walk_at kind rest).end ≡ Err Malformed → ¬ (CouldBeHead (IsHead IsOpening IsClosing) text)
    no_head text opening rest front is could =
        let whole = whole_head (text ++ could.more) opening (rest ++ could.more) further could.begins.head could.begins.is could.begins.rest could.begins.cut in
        not_both (sym (stays_malformed (head_of kind) Between rest could.more run_is) ∙ walk_is_run kind (rest ++ could.more) ∙ ap (λ w. w.end) whole.walk_is)
      where
        run_is : run (head_of kind) Between rest ≡ Err Malformed
        run_is = walk_is_run kind rest ∙ is

        stops_further : (rest : List ℕ) → run (head_of kind) Between rest ≡ Err Malformed → Stops is_name_byte rest → Stops is_name_byte (rest ++ could.more)
        stops_further [] malformed stops = cc
        stops_further (b ∷ bytes) malformed stops = stops

        further : HeadFront IsOpening (text ++ could.more) opening (rest ++ could.more)
        further = record {
          opens = front.opens;
          cut = ap (λ t. t ++ could.more) front.cut ∙ append_assoc opening rest could.more;
          stops = stops_further rest run_is front.stops;
        }

    -- the attributes of a whole head are read
    pub whole_attributes : (text opening rest : List ℕ) → HeadFront IsOpening text opening rest → (head : WrittenHead) → (more : List ℕ) (attributes : List Attribute) (whole : WholeHead kind head opening rest more)
        → AreAttributes setting file (spot_after spot head.opening) head.attributes attributes → attributes_at setting file spot (spot_after spot opening) kind rest ≡ Ok (attributes, (whole.end, more))
    unfolding attributes_at
    whole_attributes text opening rest front head more attributes whole are =
        (λ i. attributes_read spot (attributes_of setting file (spot_after spot (whole.opening_is i)) (whole.walk_is i).attributes) (whole.walk_is i).end)
        ∙ ap (λ r. attributes_read spot r (Ok (whole.end, more))) (attributes_of_read setting file (spot_after spot head.opening) head.attributes attributes are)

    -- why the attributes of a head aren't read
    pub attributes_break : (text opening rest : List ℕ) (fault : Break) → HeadFront IsOpening text opening rest → attributes_at setting file spot (spot_after spot opening) kind rest ≡ Err fault
        → HasBadValue setting file spot IsOpening text fault ⊎ (((other : Break) → ¬ (HasBadValue setting file spot IsOpening text other)) × IsUnreadHead (IsHead IsOpening IsClosing) spot text fault)
    unfolding attributes_at
    attributes_break text opening rest fault front is = go (attributes_of setting file (spot_after spot opening) (walk_at kind rest).attributes) refl (walk_at kind rest).end refl is
      where
        no_bad : (found : List Attribute) → attributes_of setting file (spot_after spot opening) (walk_at kind rest).attributes ≡ Ok found → (other : Break) → ¬ (HasBadValue setting file spot IsOpening text other)
        no_bad found is other bad =
            not_both (sym (bad_value_found text opening rest other front bad) ∙ is)

        go : (values : Result (List Attribute) Break) → attributes_of setting file (spot_after spot opening) (walk_at kind rest).attributes ≡ values → (end : Result (HeadEnd × List ℕ) Misread) → (walk_at kind rest).end ≡ end → attributes_read spot values end ≡ Err fault
            → HasBadValue setting file spot IsOpening text fault ⊎ (((other : Break) → ¬ (HasBadValue setting file spot IsOpening text other)) × IsUnreadHead (IsHead IsOpening IsClosing) spot text fault)
        go (Err other) values_is end end_is is = let same : other ≡ fault = cc in inl (bad_value text opening rest fault front (values_is ∙ ap Err same))
        go (Ok found) values_is (Err CutOff) end_is is =
            let same : fault ≡ Fault faults.Unclosed spot = cc in
            inr (no_bad found values_is, inl (no_head_yet text opening rest front end_is, could_be_head text opening rest front end_is, same))
        go (Ok found) values_is (Err Malformed) end_is is =
            let same : fault ≡ Fault faults.BadAttribute spot = cc in
            inr (no_bad found values_is, inr (no_head text opening rest front end_is, same))
        go (Ok found) values_is (Ok end) end_is is = cc
