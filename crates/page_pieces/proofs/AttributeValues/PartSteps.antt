-- One part of a value after the other, in a text with a flag for each byte.
use Rattle.std.proofs.Common.{◌≡◌, ◌≤◌, ◌<◌, ◌+◌, ◌-◌, ◌∙◌, ℕ, suc, Bool, false, List, [], ◌∷◌, ◌++◌, length, take, drop, get_or, refl, ap, sym, subst, arith, Option, Some, None, Result, Ok, Err, IsUtf8, length-drop}
use Rattle.std.specs.Str.{IsCharBoundary}
use Rattle.std.proofs.lemmas.List.{append-nil, drop-drop, get_or-drop, length-map}
use Rattle.std.proofs.lemmas.Str.{IsCharBoundary-end, IsCharBoundary-after_ascii, IsCharBoundary-before_ascii}
use Rattle.std.proofs.lemmas.Bool.Decides.{nat_tests}
use Rattle.pg_text.specs.declared.translation_fault.TranslationFault.{TranslationFault}
use Rattle.page_pieces.specs.declared.value_mark.ValueMark.{ValueMark}
use Rattle.page_pieces.specs.declared.value_mark.ValueMark.TheVariants as value_marks
use Rattle.page_pieces.specs.declared.attribute.Part.{Part}
use Rattle.page_pieces.specs.declared.attribute.Part.TheVariants as parts
use Rattle.page_pieces.specs.declared.setting.Setting.{Setting}
use Rattle.page_pieces.specs.declared.expression.Scanning.{Scanning}
use Rattle.page_pieces.specs.ReadExpression.{around_brace, brace_or, scan_byte, nothing_open}
use Rattle.page_pieces.specs.Texts.{further}
use Rattle.page_pieces.specs.ReadSigns.{signs_with, unmarked_len, expression_or, part_behind, text_added}
use Rattle.page_pieces.specs.Values.{sign, bytes_of, value_mark_of, value_mark_at}
use Rattle.page_pieces.specs.ReadValue.{parts_of}
use Rattle.page_pieces.proofs.AttributeValues.Signs.{bytes_are, signs_drop}
use Rattle.page_pieces.proofs.AttributeValues.Marks.{opens_at}
use Rattle.page_pieces.proofs.AttributeValues.Parts.{with_text, with_front, part_then, front_text, front_part, text_first, text_all, opened, some_is, brace_len}

ok_is : (x y : Part × List ℕ) (read : Result (Part × List ℕ) TranslationFault) → read ≡ Ok x → read ≡ Ok y → x ≡ y
ok_is x y read is other = cc

-- the two bytes of an opening are ASCII
mark_ascii : (setting : Setting) (shielded : Bool) (x y : ℕ) (o : ValueMark) → value_mark_of setting (sign shielded x) (sign false y) ≡ Some o → (x < 128) × (y < 128)
mark_ascii setting shielded x y o is = grind (arith, nat_tests)

pub record OpensWith (text : List ℕ) : Type 0 where
  pub two : 2 ≤ length text
  pub first : get_or text 0 0 < 128
  pub second : get_or text 1 0 < 128

pub opens_with : (setting : Setting) (text : List ℕ) (shields : List Bool) (o : ValueMark) → value_mark_at setting (signs_with text shields) ≡ Some o → OpensWith text
opens_with setting [] shields o is = absurd (cc)
opens_with setting (x ∷ []) [] o is = absurd (cc)
opens_with setting (x ∷ []) (s ∷ shields) o is = absurd (cc)
opens_with setting (x ∷ y ∷ text) shields o is =
    let ascii = mark_ascii setting (get_or shields 0 false) x y o (sym (opens_at setting (x ∷ y ∷ text) shields (omega arith)) ∙ is) in
    record { two = omega arith; first = ascii.0; second = ascii.1 }

-- the text may be cut behind an opening
pub marked_cut : (setting : Setting) (text : List ℕ) (shields : List Bool) (o : ValueMark) → IsUtf8 text → value_mark_at setting (signs_with text shields) ≡ Some o → IsCharBoundary text 2
marked_cut setting text shields o utf8 is =
    let at = opens_with setting text shields o is in
    IsCharBoundary-after_ascii text 1 utf8 (omega (arith, at.two)) at.second

length_signs : (text : List ℕ) (shields : List Bool) → length (signs_with text shields) ≡ length text
length_signs text shields = sym (length-map (signs_with text shields) (λ s. s.byte)) ∙ ap length (bytes_are text shields)

-- the text may be cut before an opening, and at its end
pub unmarked_cut : (setting : Setting) (text : List ℕ) (shields : List Bool) (n : ℕ) → n ≡ unmarked_len setting (signs_with text shields) → n ≤ length text → IsCharBoundary text n
unmarked_cut setting text shields n n_is within = go (value_mark_at setting (signs_with (drop n text) (drop n shields))) refl
  where
    go : (o : Option ValueMark) → value_mark_at setting (signs_with (drop n text) (drop n shields)) ≡ o → IsCharBoundary text n
    go None is =
        let nothing : drop (unmarked_len setting (signs_with text shields)) (signs_with text shields) ≡ [] =
        text_all setting (signs_with text shields) (ap (λ m. value_mark_at setting (drop m (signs_with text shields))) (sym n_is) ∙ ap (value_mark_at setting) (sym (signs_drop n text shields)) ∙ is) in
        let all : n ≡ length text = omega (arith, ap length nothing, length-drop (unmarked_len setting (signs_with text shields)) (signs_with text shields), length_signs text shields, n_is) in
        subst (IsCharBoundary text) (sym all) (IsCharBoundary-end text)
    go (Some o) is =
        let at = opens_with setting (drop n text) (drop n shields) o is in
        let here : n + 0 ≡ n = omega arith in
        IsCharBoundary-before_ascii text n (omega (arith, at.two, length-drop n text)) (omega (arith, at.first, get_or-drop n text 0 0, ap (λ m. get_or text m 0) here))

-- a text cut before its first opening
pub record CutAt (setting : Setting) (rest : List ℕ) (flags : List Bool) (n : ℕ) (plain behind : List ℕ) (flags_behind : List Bool) : Type 0 where
  pub n_is : n ≡ unmarked_len setting (signs_with rest flags)
  pub plain_is : plain ≡ take n rest
  pub behind_is : behind ≡ drop n rest
  pub flags_is : flags_behind ≡ drop n flags

behind_signs : {setting : Setting} {rest : List ℕ} {flags : List Bool} {n : ℕ} {plain behind : List ℕ} {flags_behind : List Bool} → CutAt setting rest flags n plain behind flags_behind
    → signs_with behind flags_behind ≡ drop (unmarked_len setting (signs_with rest flags)) (signs_with rest flags)
behind_signs {setting} {rest} {flags} {n} {plain} {behind} {flags_behind} at =
    (λ i. signs_with (at.behind_is i) (at.flags_is i)) ∙ signs_drop n rest flags ∙ ap (λ m. drop m (signs_with rest flags)) at.n_is

-- the text before the opening is added
pub cut_first : {setting : Setting} {rest : List ℕ} {flags : List Bool} {n : ℕ} {plain behind : List ℕ} {flags_behind : List Bool} → CutAt setting rest flags n plain behind flags_behind
    → (parts : List Part) → with_front (text_added parts plain) (parts_of setting (signs_with behind flags_behind)) ≡ with_front parts (parts_of setting (signs_with rest flags))
cut_first {setting} {rest} {flags} {n} {plain} {behind} {flags_behind} at parts =
    let text : plain ≡ take (unmarked_len setting (signs_with rest flags)) (bytes_of (signs_with rest flags)) =
    at.plain_is ∙ (λ i. take (at.n_is i) (sym (bytes_are rest flags) i)) in
    front_text parts plain (parts_of setting (signs_with behind flags_behind))
    ∙ ap (with_front parts) ((λ i. with_text (text i) (parts_of setting (behind_signs at i))) ∙ sym (text_first setting (signs_with rest flags)))

-- nothing opens behind the text
pub cut_last : {setting : Setting} {rest : List ℕ} {flags : List Bool} {n : ℕ} {plain behind : List ℕ} {flags_behind : List Bool} → CutAt setting rest flags n plain behind flags_behind
    → (before after : List Part) (all : Result (List Part) TranslationFault) → after ≡ text_added before plain → value_mark_at setting (signs_with behind flags_behind) ≡ None → with_front before (parts_of setting (signs_with rest flags)) ≡ all → all ≡ Ok after
cut_last {setting} {rest} {flags} {n} {plain} {behind} {flags_behind} at before after all after_is none so_far =
    let nothing : signs_with behind flags_behind ≡ [] = behind_signs at ∙ text_all setting (signs_with rest flags) (ap (value_mark_at setting) (sym (behind_signs at)) ∙ none) in
    sym so_far ∙ sym (cut_first at before) ∙ ap (λ s. with_front (text_added before plain) (parts_of setting s)) nothing ∙ ap (λ p. Ok p) (append-nil (text_added before plain) ∙ sym after_is)

further_rest : (b : ℕ) (bytes : List ℕ) (inner : Option (List ℕ × List ℕ)) (found : List ℕ × List ℕ) → further b inner ≡ Some found
    → ((f : List ℕ × List ℕ) → inner ≡ Some f → f.1 ≡ drop (length f.0 + 1) bytes) → found.1 ≡ drop (length found.0 + 1) (b ∷ bytes)
further_rest b bytes None found is rec = absurd (cc)
further_rest b bytes (Some f) found is rec =
    let same : (b ∷ f.0, f.1) ≡ found = some_is _ _ is in
    let one : suc (length f.0 + 1) ≡ suc (length f.0) + 1 = omega arith in
    sym (ap (λ p. p.1) same) ∙ rec f refl ∙ ap (λ n. drop n (b ∷ bytes)) one ∙ ap (λ p. drop (length p.0 + 1) (b ∷ bytes)) same

pub brace_rest : (state : Scanning) (text : List ℕ) (found : List ℕ × List ℕ) → around_brace state text ≡ Some found → found.1 ≡ drop (length found.0 + 1) text
brace_rest state [] found is = absurd (cc)
brace_rest state (b ∷ bytes) found is = go (scan_byte state b) is (λ next. brace_rest next bytes)
  where
    go : (step : Option Scanning) → brace_or step b bytes (λ next. around_brace next bytes) ≡ Some found
        → ((next : Scanning) (f : List ℕ × List ℕ) → around_brace next bytes ≡ Some f → f.1 ≡ drop (length f.0 + 1) bytes) → found.1 ≡ drop (length found.0 + 1) (b ∷ bytes)
    go None is rec =
        let same : ([], bytes) ≡ found = some_is _ _ is in
        sym (ap (λ p. p.1) same) ∙ ap (λ p. drop (length p.0 + 1) (b ∷ bytes)) same
    go (Some next) is rec = further_rest b bytes (around_brace next bytes) found is (rec next)

-- what follows a part stands at the end of the text
pub part_rest : (o : ValueMark) (text : List ℕ) (found : Part × List ℕ) → part_behind o text ≡ Ok found → found.1 ≡ drop (length text - length found.1) text
part_rest value_marks.Hash text found is =
    let same : (parts.Hash, text) ≡ found = ok_is _ _ _ refl is in
    let none : 0 ≡ length text - length found.1 = omega (arith, ap (λ p. length p.1) same) in
    sym (ap (λ p. p.1) same) ∙ ap (λ n. drop n text) none
part_rest value_marks.Expression text found is = go (around_brace nothing_open text) is (brace_rest nothing_open text) (brace_len nothing_open text)
  where
    go : (o : Option (List ℕ × List ℕ)) → expression_or o ≡ Ok found → ((f : List ℕ × List ℕ) → o ≡ Some f → f.1 ≡ drop (length f.0 + 1) text) → ((f : List ℕ × List ℕ) → o ≡ Some f → length text ≡ length f.0 + 1 + length f.1)
        → found.1 ≡ drop (length text - length found.1) text
    go None is rest len = absurd (cc)
    go (Some f) is rest len =
        let same : (parts.Expr f.0, f.1) ≡ found = ok_is _ _ _ refl is in
        let at : length f.0 + 1 ≡ length text - length found.1 = omega (arith, len f refl, ap (λ p. length p.1) same) in
        sym (ap (λ p. p.1) same) ∙ rest f refl ∙ ap (λ n. drop n text) at

-- the part that opens here is added
pub part_added : (setting : Setting) (o : ValueMark) (front after : List Part) (part : Part) (behind inside more : List ℕ) (flags_behind flags_more : List Bool) (n : ℕ)
    → value_mark_at setting (signs_with behind flags_behind) ≡ Some o → inside ≡ drop 2 behind → part_behind o inside ≡ Ok (part, more) → n ≡ length behind - length more → flags_more ≡ drop n flags_behind → after ≡ front ++ part ∷ []
    → 2 ≤ length behind → length more ≤ length inside
    → with_front after (parts_of setting (signs_with more flags_more)) ≡ with_front front (parts_of setting (signs_with behind flags_behind))
part_added setting o front after part behind inside more flags_behind flags_more n opens inside_is reads n_is flags_is after_is two within =
    let sum : 2 + (length inside - length more) ≡ length (signs_with behind flags_behind) - length more = omega (arith, length_signs behind flags_behind, ap length inside_is, length-drop 2 behind) in
    let same_n : n ≡ length (signs_with behind flags_behind) - length more = omega (arith, length_signs behind flags_behind) in
    let rest : more ≡ drop (length (signs_with behind flags_behind) - length more) behind = part_rest o inside (part, more) reads ∙ ap (drop (length inside - length more)) inside_is ∙ drop-drop (length inside - length more) 2 behind ∙ ap (λ m. drop m behind) sum in
    let left : signs_with more flags_more ≡ drop (length (signs_with behind flags_behind) - length more) (signs_with behind flags_behind) =
    (λ i. signs_with (rest i) ((flags_is ∙ ap (λ m. drop m flags_behind) same_n) i)) ∙ signs_drop (length (signs_with behind flags_behind) - length more) behind flags_behind in
    (λ i. with_front (after_is i) (parts_of setting (left i)))
    ∙ front_part front part (parts_of setting (drop (length (signs_with behind flags_behind) - length more) (signs_with behind flags_behind)))
    ∙ ap (with_front front) (
    ap (λ r. part_then r (λ rest. parts_of setting (drop (length (signs_with behind flags_behind) - length rest) (signs_with behind flags_behind)))) (sym reads ∙ ap (part_behind o) (inside_is ∙ ap (drop 2) (sym (bytes_are behind flags_behind))))
    ∙ sym (opened setting (signs_with behind flags_behind) o opens))

-- the part that opens here is not read
pub part_refused : (setting : Setting) (o : ValueMark) (behind inside : List ℕ) (flags_behind : List Bool) (fault : TranslationFault)
    → value_mark_at setting (signs_with behind flags_behind) ≡ Some o → inside ≡ drop 2 behind → part_behind o inside ≡ Err fault
    → parts_of setting (signs_with behind flags_behind) ≡ Err fault
part_refused setting o behind inside flags_behind fault opens inside_is reads =
    opened setting (signs_with behind flags_behind) o opens
    ∙ ap (λ r. part_then r (λ rest. parts_of setting (drop (length (signs_with behind flags_behind) - length rest) (signs_with behind flags_behind)))) (ap (part_behind o) (ap (drop 2) (bytes_are behind flags_behind) ∙ sym inside_is) ∙ reads)
