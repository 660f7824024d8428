-- The walk through a head finds the attributes that stand there, and what closes it.
use Rattle.std.proofs.Common.{◌≡◌, ℕ, zero, suc, ◌+◌, ◌<◌, Bool, true, false, cond, eqb, Result, Ok, Err, List, [], ◌∷◌, ◌++◌, length, drop, codes, nat_lt, refl, sym, ap, ◌∙◌, subst, arith, append_assoc, append-nil, length-append, lt-ltb}
use Rattle.std.proofs.lemmas.Bool.{cond-true, cond-false}
use Rattle.page_pieces.specs.declared.head.HeadKind.{HeadKind}
use Rattle.page_pieces.specs.declared.head.HeadEnd.{HeadEnd}
use Rattle.page_pieces.specs.declared.head.Misread.{Misread}
use Rattle.page_pieces.specs.declared.head.HeadKind.TheVariants as kinds
use Rattle.page_pieces.specs.declared.head.HeadEnd.TheVariants as ends
use Rattle.page_pieces.specs.declared.head.Misread.TheVariants.{CutOff, Malformed}
use Rattle.page_pieces.specs.Names.{IsWhite, is_white, white_front, behind_white}
use Rattle.page_pieces.specs.Tags.{WrittenAttribute, IsWellFormed, AreWellFormed, attribute_bytes, attributes_bytes}
use Rattle.page_pieces.specs.Texts.{begins}
use Rattle.page_pieces.specs.ReadHead.{◌>>=◌, behind_mark, attribute_at, end_read, closing_bytes, Walk, attribute_before, ends_with, walk_on, walk_then, walk_within, walk_at}
use Rattle.page_pieces.proofs.AtFront.Longest.{Stops, front_is, front_all, front_cut}
use Rattle.page_pieces.proofs.AtFront.Names.{IsNoMark, start_is_no_mark}
use Rattle.page_pieces.proofs.AtFront.Marks.{begins_cut, begins_one, mark_cut, behind_two, behind_two_cut}
use Rattle.page_pieces.proofs.Heads.Attributes.{bound, ok_same, attribute_front, attribute_begins, attribute_found}

-- a head of this kind can end so
abbrev pub ClosesHead : HeadKind → HeadEnd → Type 0
ClosesHead kinds.Directive ends.Directive = Unit {0}
ClosesHead kinds.Element ends.Start = Unit {0}
ClosesHead kinds.Element ends.Empty = Unit {0}
ClosesHead _ _ = ⊥

-- what closes a head stands at the front of a text, and this rest follows
pub record ClosingFront (kind : HeadKind) (text : List ℕ) (end : HeadEnd) (rest : List ℕ) : Type 0 where
  pub closes : ClosesHead kind end
  pub cut : text ≡ closing_bytes end ++ rest

closing_front : (kind : HeadKind) (text : List ℕ) (found : HeadEnd × List ℕ) → end_read kind text ≡ Ok found → ClosingFront kind text found.0 found.1
unfolding end_read
closing_front kinds.Directive text found is =
    let mark = bound (behind_mark (codes "%>") text) _ found is in
    subst (λ f. ClosingFront kinds.Directive text f.0 f.1) (ok_same mark.then) (record { closes = tt; cut = mark_cut (codes "%>") text mark.value mark.is })
closing_front kinds.Element text found is = go (begins (codes ">") text) refl is
  where
    slash : (behind_mark (codes "/>") text >>= (λ rest. Ok (ends.Empty, rest))) ≡ Ok found → ClosingFront kinds.Element text found.0 found.1
    slash is =
        let mark = bound (behind_mark (codes "/>") text) _ found is in
        subst (λ f. ClosingFront kinds.Element text f.0 f.1) (ok_same mark.then) (record { closes = tt; cut = mark_cut (codes "/>") text mark.value mark.is })

    go : (here : Bool) → begins (codes ">") text ≡ here → cond here (Ok (ends.Start, drop 1 text)) (behind_mark (codes "/>") text >>= (λ rest. Ok (ends.Empty, rest))) ≡ Ok found → ClosingFront kinds.Element text found.0 found.1
    go true here is = subst (λ f. ClosingFront kinds.Element text f.0 f.1) (ok_same is) (record { closes = tt; cut = begins_cut (codes ">") text here })
    go false here is = slash is

closing_found : (kind : HeadKind) (end : HeadEnd) (rest : List ℕ) → ClosesHead kind end → end_read kind (closing_bytes end ++ rest) ≡ Ok (end, rest)
unfolding end_read behind_mark
closing_found kinds.Directive ends.Directive rest closes = refl
closing_found kinds.Directive ends.Start rest closes = absurd closes
closing_found kinds.Directive ends.Empty rest closes = absurd closes
closing_found kinds.Element ends.Directive rest closes = absurd closes
closing_found kinds.Element ends.Start rest closes = refl
closing_found kinds.Element ends.Empty rest closes = refl

closing_stops : (end : HeadEnd) (rest : List ℕ) → Stops is_white (closing_bytes end ++ rest)
closing_stops ends.Directive rest = refl
closing_stops ends.Start rest = refl
closing_stops ends.Empty rest = refl

-- the mark isn't there, as its first byte isn't
pub no_mark : (m n b : ℕ) (bytes : List ℕ) → eqb m b ≡ false → behind_mark (m ∷ n ∷ []) (b ∷ bytes) ≡ Err Malformed
no_mark m n b [] other = behind_two_cut m n b ∙ cond-false (eqb m b) _ _ other
no_mark m n b (c ∷ bytes) other = behind_two m n b c bytes ∙ cond-false (eqb m b) _ _ other

pub no_closing : (kind : HeadKind) (b : ℕ) (bytes : List ℕ) → IsNoMark b → end_read kind (b ∷ bytes) ≡ Err Malformed
unfolding end_read
no_closing kinds.Directive b bytes other = ap (λ r. r >>= (λ rest. Ok (ends.Directive, rest))) (no_mark 37 62 b bytes other.percent)
no_closing kinds.Element b bytes other =
    cond-false (begins (codes ">") (b ∷ bytes)) _ _ (begins_one 62 b bytes ∙ other.greater)
    ∙ ap (λ r. r >>= (λ rest. Ok (ends.Empty, rest))) (no_mark 47 62 b bytes other.slash)

-- what the walk has found stands at the front of a text
pub record WalkEnd (kind : HeadKind) (gap text : List ℕ) (end : HeadEnd) (rest : List ℕ) : Type 0 where
  pub white : IsWhite gap
  pub closes : ClosesHead kind end
  pub cut : text ≡ gap ++ (closing_bytes end ++ rest)

-- the attributes that the walk has found stand there, and what closes the head behind them
pub record WalkFront (kind : HeadKind) (text : List ℕ) (walk : Walk) : Type 0 where
  pub well : AreWellFormed walk.attributes
  pub behind : List ℕ
  pub cut : text ≡ attributes_bytes walk.attributes ++ behind
  pub ends : (found : HeadEnd × List ℕ) → walk.end ≡ Ok found → WalkEnd kind walk.gap behind found.0 found.1

nothing_found : (kind : HeadKind) (text gap : List ℕ) (fault : Misread) → WalkFront kind text (ends_with gap (Err fault))
nothing_found kind text gap fault = record { well = tt; behind = text; cut = refl; ends = λ found is. cc }

walk_front : (most : ℕ) (kind : HeadKind) (text : List ℕ) → WalkFront kind text (walk_within most kind text)
unfolding walk_within
walk_front zero kind text = nothing_found kind text (white_front text) Malformed
walk_front (suc most) kind text = go (end_read kind (behind_white text)) refl (walk_within most kind) (walk_front most kind)
  where
    attribute : (r : Result (WrittenAttribute × List ℕ) Misread) → attribute_at text ≡ r → (more : List ℕ → Walk) → ((t : List ℕ) → WalkFront kind t (more t)) → WalkFront kind text (walk_on text r more)
    attribute (Err fault) is more rec = nothing_found kind text (white_front text) fault
    attribute (Ok found) is more rec = shorter (nat_lt (length found.1) (length text))
      where
        shorter : (less : Bool) → WalkFront kind text (cond less (attribute_before found.0 (more found.1)) (ends_with (white_front text) (Err Malformed)))
        shorter false = nothing_found kind text (white_front text) Malformed
        shorter true =
            let front = attribute_front text found is in
            let then = rec found.1 in
            record {
              well = (front.well, then.well);
              behind = then.behind;
              cut = front.cut ∙ ap (λ t. attribute_bytes found.0 ++ t) then.cut ∙ sym (append_assoc (attribute_bytes found.0) (attributes_bytes (more found.1).attributes) then.behind);
              ends = then.ends;
            }

    go : (r : Result (HeadEnd × List ℕ) Misread) → end_read kind (behind_white text) ≡ r → (more : List ℕ → Walk) → ((t : List ℕ) → WalkFront kind t (more t)) → WalkFront kind text (walk_then text r more)
    go (Ok found) is more rec = record {
      well = tt;
      behind = text;
      cut = refl;
      ends = λ other same.
          let front = closing_front kind (behind_white text) other (is ∙ same) in
          record { white = front_all is_white text; closes = front.closes; cut = front_cut is_white text ∙ ap (λ t. white_front text ++ t) front.cut };
    }
    go (Err CutOff) is more rec = nothing_found kind text (white_front text) CutOff
    go (Err Malformed) is more rec = attribute (attribute_at text) refl more rec

pub walk_stands : (kind : HeadKind) (text : List ℕ) → WalkFront kind text (walk_at kind text)
unfolding walk_at
walk_stands kind text = walk_front (1 + length text) kind text

pub attribute_size : (a : WrittenAttribute) → IsWellFormed a → 0 < length (attribute_bytes a)
attribute_size a well = simp length-append (omega (arith, well.parted))

-- the walk goes through an attribute that stands there
one_attribute : (most : ℕ) (kind : HeadKind) (a : WrittenAttribute) (rest : List ℕ) → IsWellFormed a → walk_within (suc most) kind (attribute_bytes a ++ rest) ≡ attribute_before a (walk_within most kind rest)
unfolding walk_within
one_attribute most kind a rest well =
    let text = attribute_bytes a ++ rest in
    let begins = attribute_begins a rest well in
    let less : length rest < length text = omega (arith, length-append (attribute_bytes a) rest, attribute_size a well) in
    ap (λ r. walk_then text r (walk_within most kind)) (ap (end_read kind) begins.is ∙ no_closing kind begins.first begins.bytes (start_is_no_mark begins.first begins.starts))
    ∙ ap (λ r. walk_on text r (walk_within most kind)) (attribute_found a rest well)
    ∙ cond-true (nat_lt (length rest) (length text)) _ _ (lt-ltb (length rest) (length text) less)

-- the attributes and then what the walk finds behind them
abbrev pub attributes_before : List WrittenAttribute → Walk → Walk
attributes_before attributes walk = record { attributes = attributes ++ walk.attributes; gap = walk.gap; end = walk.end }

-- the walk goes on behind attributes
pub record GoesOn (kind : HeadKind) (text rest : List ℕ) (attributes : List WrittenAttribute) (most : ℕ) : Type 0 where
  pub left : ℕ
  pub enough : length rest < left
  pub is : walk_within most kind text ≡ attributes_before attributes (walk_within left kind rest)

more_attributes : (most : ℕ) (kind : HeadKind) (attributes : List WrittenAttribute) (rest : List ℕ) → AreWellFormed attributes → length (attributes_bytes attributes ++ rest) < most → GoesOn kind (attributes_bytes attributes ++ rest) rest attributes most
more_attributes most kind [] rest well enough = record { left = most; enough = enough; is = refl }
more_attributes zero kind (a ∷ attributes) rest well enough = absurd (omega arith)
more_attributes (suc most) kind (a ∷ attributes) rest well enough =
    let text = append_assoc (attribute_bytes a) (attributes_bytes attributes) rest in
    let less : length (attributes_bytes attributes ++ rest) < most = omega (arith, ap length text, attribute_size a well.0, length-append (attribute_bytes a) (attributes_bytes attributes ++ rest)) in
    let then = more_attributes most kind attributes rest well.1 less in
    record {
      left = then.left;
      enough = then.enough;
      is = ap (walk_within (suc most) kind) text ∙ one_attribute most kind a (attributes_bytes attributes ++ rest) well.0 ∙ ap (attribute_before a) then.is;
    }

-- the walk finds attributes that stand there first
pub walk_goes_on : (kind : HeadKind) (attributes : List WrittenAttribute) (rest : List ℕ) → AreWellFormed attributes → GoesOn kind (attributes_bytes attributes ++ rest) rest attributes (1 + length (attributes_bytes attributes ++ rest))
walk_goes_on kind attributes rest well = more_attributes (1 + length (attributes_bytes attributes ++ rest)) kind attributes rest well (omega arith)

-- and what closes the head behind them
last_is_found : (most : ℕ) (kind : HeadKind) (gap : List ℕ) (end : HeadEnd) (rest : List ℕ) → 0 < most → IsWhite gap → ClosesHead kind end → walk_within most kind (gap ++ (closing_bytes end ++ rest)) ≡ ends_with gap (Ok (end, rest))
unfolding walk_within
last_is_found zero kind gap end rest some white closes = absurd (omega arith)
last_is_found (suc most) kind gap end rest some white closes =
    let text = gap ++ (closing_bytes end ++ rest) in
    let front = front_is is_white gap (closing_bytes end ++ rest) white (closing_stops end rest) in
    ap (λ r. walk_then text r (walk_within most kind)) (ap (end_read kind) front.left ∙ closing_found kind end rest closes)
    ∙ ap (λ g. ends_with g (Ok (end, rest))) front.taken

pub walk_is_whole : (kind : HeadKind) (attributes : List WrittenAttribute) (gap : List ℕ) (end : HeadEnd) (rest : List ℕ) → AreWellFormed attributes → IsWhite gap → ClosesHead kind end
    → walk_at kind (attributes_bytes attributes ++ (gap ++ (closing_bytes end ++ rest))) ≡ record { attributes = attributes; gap = gap; end = Ok (end, rest) }
unfolding walk_at
walk_is_whole kind attributes gap end rest well white closes =
    let on = walk_goes_on kind attributes (gap ++ (closing_bytes end ++ rest)) well in
    on.is
    ∙ ap (attributes_before attributes) (last_is_found on.left kind gap end rest (omega (arith, on.enough)) white closes)
    ∙ ap (λ list. record { attributes = list; gap = gap; end = Ok (end, rest) }) (append-nil attributes)
