-- The attributes of a head, read one at a time.
use Rattle.std.proofs.Common.{◌≡◌, ◌<◌, ◌+◌, ◌-◌, ◌∙◌, ℕ, zero, suc, Bool, true, false, cond, List, [], ◌∷◌, ◌++◌, length, take, drop, get_or, length-append, subst, IsUtf8, refl, ap, sym, arith, Result, Ok, Err, nat_lt, append_assoc, append-nil, ltb-true, lt-ltb, one-add}
use Rattle.std.proofs.Math.Seq.{get_or-append_seam, take-append_seam, drop-append_seam}
use Rattle.std.proofs.lemmas.Str.{IsCharBoundary-after_ascii, IsUtf8-drop}
use Rattle.page_pieces.specs.Names.{white_front, behind_white}
use Rattle.page_pieces.specs.declared.setting.Setting.{Setting}
use Rattle.page_pieces.proofs.Heads.Attributes.{attribute_front}
use Rattle.page_pieces.specs.declared.attribute.Attribute.{Attribute}
use Rattle.page_pieces.specs.declared.spot.Spot.{Spot}
use Rattle.page_pieces.specs.declared.piece.Break.{Break}
use Rattle.page_pieces.specs.declared.head.HeadKind.{HeadKind}
use Rattle.page_pieces.specs.declared.head.HeadEnd.{HeadEnd}
use Rattle.page_pieces.specs.declared.head.Misread.{Misread}
use Rattle.page_pieces.specs.declared.head.Misread.TheVariants.{CutOff, Malformed}
use Rattle.page_pieces.specs.Spots.{spot_after}
use Rattle.page_pieces.specs.Tags.{WrittenAttribute, before_value, attribute_bytes}
use Rattle.pg_text.proofs.LiteralLemmas.{quote_ascii}
use Rattle.page_pieces.specs.ReadValue.{attribute_of, attribute_first, attributes_of}
use Rattle.page_pieces.specs.ReadHead.{attribute_at, end_read, Walk, attribute_before, ends_with, walk_on, walk_then, walk_within, walk_at, unread, attributes_read, attributes_at}
use Rattle.page_pieces.specs.ReadSpelled.{unless_cut_off}

-- both go on in the same way on shorter texts
on_same : (text : List ℕ) (r : Result (WrittenAttribute × List ℕ) Misread) (f g : List ℕ → Walk) → ((rest : List ℕ) → length rest < length text → f rest ≡ g rest) → walk_on text r f ≡ walk_on text r g
on_same text (Err fault) f g same = refl
on_same text (Ok found) f g same = go (nat_lt (length found.1) (length text)) refl
  where
    go : (b : Bool) → nat_lt (length found.1) (length text) ≡ b
        → cond b (attribute_before found.0 (f found.1)) (ends_with (white_front text) (Err Malformed)) ≡ cond b (attribute_before found.0 (g found.1)) (ends_with (white_front text) (Err Malformed))
    go true is = ap (attribute_before found.0) (same found.1 (ltb-true _ _ is))
    go false is = refl

then_same : (text : List ℕ) (e : Result (HeadEnd × List ℕ) Misread) (f g : List ℕ → Walk) → ((rest : List ℕ) → length rest < length text → f rest ≡ g rest) → walk_then text e f ≡ walk_then text e g
then_same text (Ok found) f g same = refl
then_same text (Err CutOff) f g same = refl
then_same text (Err Malformed) f g same = on_same text (attribute_at text) f g same

-- how many attributes are looked for doesn't matter, if there are more than bytes
enough : (n m : ℕ) (kind : HeadKind) (text : List ℕ) → length text < n → length text < m → walk_within n kind text ≡ walk_within m kind text
unfolding walk_within
enough zero m kind text a b = absurd (omega arith)
enough (suc n) zero kind text a b = absurd (omega arith)
enough (suc n) (suc m) kind text a b = then_same text (end_read kind (behind_white text)) _ _ (λ rest lt. enough n m kind rest (omega arith) (omega arith))

opened : (n : ℕ) (kind : HeadKind) (text : List ℕ) → walk_within (suc n) kind text ≡ walk_then text (end_read kind (behind_white text)) (walk_within n kind)
unfolding walk_within
opened n kind text = refl

-- the walk begins with what stands first
begins_so : (kind : HeadKind) (text : List ℕ) → walk_at kind text ≡ walk_then text (end_read kind (behind_white text)) (walk_at kind)
unfolding walk_at
begins_so kind text =
    ap (λ n. walk_within n kind text) (one-add (length text))
    ∙ opened (length text) kind text
    ∙ then_same text (end_read kind (behind_white text)) _ _ (λ rest lt. enough (length text) (1 + length rest) kind rest (omega arith) (omega arith))

no_end : (kind : HeadKind) (text : List ℕ) (fault : Misread) → end_read kind (behind_white text) ≡ Err fault → walk_at kind text ≡ walk_on text (unless_cut_off fault (attribute_at text)) (walk_at kind)
no_end kind text fault is = begins_so kind text ∙ ap (λ e. walk_then text e (walk_at kind)) is ∙ go fault
  where
    go : (fault : Misread) → walk_then text (Err fault) (walk_at kind) ≡ walk_on text (unless_cut_off fault (attribute_at text)) (walk_at kind)
    go CutOff = refl
    go Malformed = refl

-- an attribute stands first
one_attribute : (kind : HeadKind) (text : List ℕ) (fault : Misread) (a : WrittenAttribute) (rest : List ℕ) → end_read kind (behind_white text) ≡ Err fault → unless_cut_off fault (attribute_at text) ≡ Ok (a, rest) → length rest < length text
    → walk_at kind text ≡ attribute_before a (walk_at kind rest)
one_attribute kind text fault a rest end is lt =
    no_end kind text fault end
    ∙ ap (λ r. walk_on text r (walk_at kind)) is
    ∙ ap (λ b. cond b (attribute_before a (walk_at kind rest)) (ends_with (white_front text) (Err Malformed))) (lt-ltb (length rest) (length text) lt)

-- these attributes before those that are read
abbrev pub with_front : List Attribute → Result (List Attribute × (HeadEnd × List ℕ)) Break → Result (List Attribute × (HeadEnd × List ℕ)) Break
with_front front (Ok found) = Ok (front ++ found.0, found.1)
with_front front (Err fault) = Err fault

front_twice : (front : List Attribute) (a : Attribute) (read : Result (List Attribute × (HeadEnd × List ℕ)) Break) → with_front (front ++ a ∷ []) read ≡ with_front front (with_front (a ∷ []) read)
front_twice front a (Ok found) = ap (λ xs. Ok (xs, found.1)) (append_assoc front (a ∷ []) found.0)
front_twice front a (Err fault) = refl

first_read : (spot : Spot) (a : Attribute) (more : Result (List Attribute) Break) (end : Result (HeadEnd × List ℕ) Misread) → attributes_read spot (attribute_first (Ok a) more) end ≡ with_front (a ∷ []) (attributes_read spot more end)
first_read spot a (Err fault) end = refl
first_read spot a (Ok attributes) (Err fault) = refl
first_read spot a (Ok attributes) (Ok end) = refl

-- what a walk gives
abbrev by_walk : Setting → List ℕ → Spot → Spot → Walk → Result (List Attribute × (HeadEnd × List ℕ)) Break
by_walk setting file spot at walk = attributes_read spot (attributes_of setting file at walk.attributes) walk.end

walked : (setting : Setting) (file : List ℕ) (spot at : Spot) (kind : HeadKind) (text : List ℕ) → attributes_at setting file spot at kind text ≡ by_walk setting file spot at (walk_at kind text)
unfolding attributes_at
walked setting file spot at kind text = refl

-- what is read of a head so far, and what is left
pub record Leads (setting : Setting) (file : List ℕ) (spot from : Spot) (kind : HeadKind) (text : List ℕ) (found : List Attribute) (at : Spot) (rest : List ℕ) : Type 0 where
  pub same : with_front found (attributes_at setting file spot at kind rest) ≡ attributes_at setting file spot from kind text

pub starts : {setting : Setting} {file : List ℕ} {spot from : Spot} {kind : HeadKind} {text : List ℕ} → Leads setting file spot from kind text [] from text
starts {setting} {file} {spot} {from} {kind} {text} = record { same = go (attributes_at setting file spot from kind text) }
  where
    go : (read : Result (List Attribute × (HeadEnd × List ℕ)) Break) → with_front [] read ≡ read
    go (Ok found) = refl
    go (Err fault) = refl

-- one attribute more
pub one_more : {setting : Setting} {file : List ℕ} {spot from : Spot} {kind : HeadKind} {text : List ℕ} {found : List Attribute} {at : Spot} {rest : List ℕ} → Leads setting file spot from kind text found at rest
    → (fault : Misread) (a : WrittenAttribute) (behind : List ℕ) (attribute : Attribute) → end_read kind (behind_white rest) ≡ Err fault → unless_cut_off fault (attribute_at rest) ≡ Ok (a, behind) → length behind < length rest
    → attribute_of setting file at a ≡ Ok attribute → Leads setting file spot from kind text (found ++ attribute ∷ []) (spot_after at (attribute_bytes a)) behind
one_more {setting} {file} {spot} {from} {kind} {text} {found} {at} {rest} leads fault a behind attribute end is lt reads = record {
  same =
      front_twice found attribute (attributes_at setting file spot (spot_after at (attribute_bytes a)) kind behind)
      ∙ ap (with_front found) (sym here)
      ∙ leads.same;
}
  where
    here : attributes_at setting file spot at kind rest ≡ with_front (attribute ∷ []) (attributes_at setting file spot (spot_after at (attribute_bytes a)) kind behind)
    here =
        walked setting file spot at kind rest
        ∙ ap (by_walk setting file spot at) (one_attribute kind rest fault a behind end is lt)
        ∙ ap (λ r. attributes_read spot (attribute_first r (attributes_of setting file (spot_after at (attribute_bytes a)) (walk_at kind behind).attributes)) (walk_at kind behind).end) reads
        ∙ first_read spot attribute (attributes_of setting file (spot_after at (attribute_bytes a)) (walk_at kind behind).attributes) (walk_at kind behind).end
        ∙ ap (with_front (attribute ∷ [])) (sym (walked setting file spot (spot_after at (attribute_bytes a)) kind behind))

-- the first faulty value
pub faulty : {setting : Setting} {file : List ℕ} {spot from : Spot} {kind : HeadKind} {text : List ℕ} {found : List Attribute} {at : Spot} {rest : List ℕ} → Leads setting file spot from kind text found at rest
    → (fault : Misread) (a : WrittenAttribute) (behind : List ℕ) (break : Break) → end_read kind (behind_white rest) ≡ Err fault → unless_cut_off fault (attribute_at rest) ≡ Ok (a, behind) → length behind < length rest
    → attribute_of setting file at a ≡ Err break → attributes_at setting file spot from kind text ≡ Err break
faulty {setting} {file} {spot} {from} {kind} {text} {found} {at} {rest} leads fault a behind break end is lt reads =
    sym leads.same ∙ ap (with_front found) here
  where
    here : attributes_at setting file spot at kind rest ≡ Err break
    here =
        walked setting file spot at kind rest
        ∙ ap (by_walk setting file spot at) (one_attribute kind rest fault a behind end is lt)
        ∙ ap (λ r. attributes_read spot (attribute_first r (attributes_of setting file (spot_after at (attribute_bytes a)) (walk_at kind behind).attributes)) (walk_at kind behind).end) reads

-- the head is closed
pub closes : {setting : Setting} {file : List ℕ} {spot from : Spot} {kind : HeadKind} {text : List ℕ} {found : List Attribute} {at : Spot} {rest : List ℕ} → Leads setting file spot from kind text found at rest
    → (end : HeadEnd) (behind : List ℕ) → end_read kind (behind_white rest) ≡ Ok (end, behind) → attributes_at setting file spot from kind text ≡ Ok (found, (end, behind))
closes {setting} {file} {spot} {from} {kind} {text} {found} {at} {rest} leads end behind is =
    sym leads.same ∙ ap (with_front found) here ∙ ap (λ xs. Ok (xs, (end, behind))) (append-nil found)
  where
    here : attributes_at setting file spot at kind rest ≡ Ok ([], (end, behind))
    here = walked setting file spot at kind rest ∙ ap (by_walk setting file spot at) (begins_so kind rest ∙ ap (λ e. walk_then rest e (walk_at kind)) is)

-- neither an attribute stands here nor what closes the head
pub breaks_off : {setting : Setting} {file : List ℕ} {spot from : Spot} {kind : HeadKind} {text : List ℕ} {found : List Attribute} {at : Spot} {rest : List ℕ} → Leads setting file spot from kind text found at rest
    → (fault other : Misread) → end_read kind (behind_white rest) ≡ Err fault → unless_cut_off fault (attribute_at rest) ≡ Err other → attributes_at setting file spot from kind text ≡ Err (unread spot other)
breaks_off {setting} {file} {spot} {from} {kind} {text} {found} {at} {rest} leads fault other end is =
    sym leads.same ∙ ap (with_front found) here
  where
    here : attributes_at setting file spot at kind rest ≡ Err (unread spot other)
    here = walked setting file spot at kind rest ∙ ap (by_walk setting file spot at) (no_end kind rest fault end ∙ ap (λ r. walk_on rest r (walk_at kind)) is)

not_cut_off : {A : Type 0} (fault : Misread) (read : Result A Misread) (x : A) → unless_cut_off fault read ≡ Ok x → read ≡ Ok x
not_cut_off CutOff read x is = cc
not_cut_off Malformed read x is = is

-- the attribute and what follows it are the text
pub attribute_cut : (text : List ℕ) (fault : Misread) (a : WrittenAttribute) (behind : List ℕ) → unless_cut_off fault (attribute_at text) ≡ Ok (a, behind) → text ≡ attribute_bytes a ++ behind
attribute_cut text fault a behind is = (attribute_front text (a, behind) (not_cut_off fault (attribute_at text) (a, behind) is)).cut

-- its bytes are those before what follows it
pub bytes_before : (text bytes behind : List ℕ) → text ≡ bytes ++ behind → take (length text - length behind) text ≡ bytes
bytes_before text bytes behind is = (λ i. take (size i) (is i)) ∙ take-append_seam bytes behind
  where
    size : length text - length behind ≡ length bytes
    size = omega (arith, ap length is, length-append bytes behind)

-- what follows an ASCII byte is text
behind_ascii : (text front behind : List ℕ) (b : ℕ) → IsUtf8 text → text ≡ front ++ b ∷ behind → b < 128 → IsUtf8 behind
behind_ascii text front behind b utf8 is ascii =
    let at : get_or text (length front) 0 ≡ b = ap (λ t. get_or t (length front) 0) is ∙ get_or-append_seam front b behind 0 in
    let within : length front < length text = omega (arith, ap length is, length-append front (b ∷ behind)) in
    let seam : text ≡ (front ++ b ∷ []) ++ behind = is ∙ sym (append_assoc front (b ∷ []) behind) in
    let size : length front + 1 ≡ length (front ++ b ∷ []) = omega (arith, length-append front (b ∷ [])) in
    subst IsUtf8 ((λ i. drop (size i) (seam i)) ∙ drop-append_seam (front ++ b ∷ []) behind) (IsUtf8-drop text (length front + 1) utf8 (IsCharBoundary-after_ascii text (length front) utf8 within (omega arith)))

pub behind_attribute : (text : List ℕ) (fault : Misread) (a : WrittenAttribute) (behind : List ℕ) → IsUtf8 text → unless_cut_off fault (attribute_at text) ≡ Ok (a, behind) → IsUtf8 behind
behind_attribute text fault a behind utf8 is =
    let front = attribute_front text (a, behind) (not_cut_off fault (attribute_at text) (a, behind) is) in
    behind_ascii text (before_value a ++ a.value) behind a.quote utf8 (front.cut ∙ seam) (quote_ascii a.quote front.well.quote)
  where
    seam : attribute_bytes a ++ behind ≡ (before_value a ++ a.value) ++ a.quote ∷ behind
    seam = simp append_assoc
