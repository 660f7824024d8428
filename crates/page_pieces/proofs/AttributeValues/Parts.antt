-- The parts of a value, one after the other.
use Rattle.std.proofs.Common.{◌≡◌, ◌+◌, ◌-◌, ◌∙◌, ℕ, zero, suc, List, [], ◌∷◌, ◌++◌, length, take, drop, refl, ap, sym, arith, Option, Some, None, Result, Ok, Err, append_assoc}
use Rattle.std.proofs.lemmas.List.{length-map}
use Rattle.pg_text.specs.declared.translation_fault.TranslationFault.{TranslationFault}
use Rattle.page_pieces.specs.declared.value_mark.ValueMark.{ValueMark}
use Rattle.page_pieces.specs.declared.value_mark.ValueMark.TheVariants as value_marks
use Rattle.page_pieces.specs.declared.attribute.Part.{Part}
use Rattle.page_pieces.specs.declared.attribute.Part.TheVariants as parts
use Rattle.page_pieces.specs.declared.setting.Setting.{Setting}
use Rattle.page_pieces.specs.declared.expression.Scanning.{Scanning}
use Rattle.page_pieces.specs.ReadExpression.{around_brace, brace_or, scan_byte, nothing_open}
use Rattle.page_pieces.specs.Texts.{further, unless}
use Rattle.page_pieces.specs.ReadSigns.{unmarked_len, expression_or, part_behind, text_added}
use Rattle.page_pieces.specs.Values.{Sign, bytes_of, value_mark_at}
use Rattle.page_pieces.specs.ReadValue.{with_byte, with_part, with_expression, part_or, parts_behind, parts_of}
use Rattle.page_pieces.proofs.AtFront.Before.{none_behind}

-- a text before these parts, where it is not empty
abbrev pub with_text : List ℕ → Result (List Part) TranslationFault → Result (List Part) TranslationFault
with_text [] behind = behind
with_text (b ∷ bytes) behind = with_part (parts.Text (b ∷ bytes)) behind

-- parts before these parts
abbrev pub with_front : List Part → Result (List Part) TranslationFault → Result (List Part) TranslationFault
with_front front (Ok behind) = Ok (front ++ behind)
with_front front (Err fault) = Err fault

pub front_part : (front : List Part) (part : Part) (behind : Result (List Part) TranslationFault) → with_front (front ++ part ∷ []) behind ≡ with_front front (with_part part behind)
front_part front part (Ok behind) = ap (λ p. Ok p) (append_assoc front (part ∷ []) behind)
front_part front part (Err fault) = refl

pub front_text : (front : List Part) (text : List ℕ) (behind : Result (List Part) TranslationFault) → with_front (text_added front text) behind ≡ with_front front (with_text text behind)
front_text front [] behind = refl
front_text front (b ∷ bytes) behind = front_part front (parts.Text (b ∷ bytes)) behind

pub front_nothing : (behind : Result (List Part) TranslationFault) → with_front [] behind ≡ behind
front_nothing (Ok behind) = refl
front_nothing (Err fault) = refl

-- these parts begin with no text
abbrev pub BeginsOther : Result (List Part) TranslationFault → Type 0
BeginsOther (Err fault) = Unit {0}
BeginsOther (Ok []) = Unit {0}
BeginsOther (Ok (parts.Text text ∷ more)) = ⊥
BeginsOther (Ok (parts.Expr text ∷ more)) = Unit {0}
BeginsOther (Ok (parts.Hash ∷ more)) = Unit {0}

hash_other : (behind : Result (List Part) TranslationFault) → BeginsOther (with_part parts.Hash behind)
hash_other (Ok behind) = tt
hash_other (Err fault) = tt

expression_other : (found : Option (List ℕ × List ℕ)) (more : ℕ → Result (List Part) TranslationFault) → BeginsOther (with_expression found more)
expression_other None more = tt
expression_other (Some found) more = go (more (length found.0 + 2))
  where
    go : (behind : Result (List Part) TranslationFault) → BeginsOther (with_part (parts.Expr found.0) behind)
    go (Ok behind) = tt
    go (Err fault) = tt

opened_other : (setting : Setting) (signs : List Sign) → unmarked_len setting signs ≡ 0 → BeginsOther (parts_of setting signs)
opened_other setting [] none = tt
opened_other setting (s ∷ more) none = go (value_mark_at setting (s ∷ more)) none
  where
    go : (o : Option ValueMark) → unless o (unmarked_len setting more) ≡ 0 → BeginsOther (part_or o s more (λ skipped. parts_behind setting skipped more))
    go None none = absurd (omega arith)
    go (Some value_marks.Hash) none = hash_other (parts_behind setting 1 more)
    go (Some value_marks.Expression) none = expression_other (around_brace nothing_open (bytes_of (drop 1 more))) (λ skipped. parts_behind setting skipped more)

byte_alone : (b : ℕ) (behind : Result (List Part) TranslationFault) → BeginsOther behind → with_byte b behind ≡ with_part (parts.Text (b ∷ [])) behind
byte_alone b (Err fault) other = refl
byte_alone b (Ok []) other = refl
byte_alone b (Ok (parts.Text text ∷ more)) other = absurd other
byte_alone b (Ok (parts.Expr text ∷ more)) other = refl
byte_alone b (Ok (parts.Hash ∷ more)) other = refl

byte_on : (b c : ℕ) (bytes : List ℕ) (behind : Result (List Part) TranslationFault) → with_byte b (with_part (parts.Text (c ∷ bytes)) behind) ≡ with_part (parts.Text (b ∷ c ∷ bytes)) behind
byte_on b c bytes (Ok behind) = refl
byte_on b c bytes (Err fault) = refl

pub byte_first : (b : ℕ) (text : List ℕ) (behind : Result (List Part) TranslationFault) → BeginsOther behind → with_byte b (with_text text behind) ≡ with_text (b ∷ text) behind
byte_first b [] behind other = byte_alone b behind other
byte_first b (c ∷ text) behind other = byte_on b c text behind

unmarked_all : (setting : Setting) (signs : List Sign) → unmarked_len setting (drop (unmarked_len setting signs) signs) ≡ 0
unmarked_all setting [] = refl
unmarked_all setting (s ∷ more) = go (value_mark_at setting (s ∷ more)) refl (unmarked_all setting more)
  where
    go : (o : Option ValueMark) → value_mark_at setting (s ∷ more) ≡ o → unmarked_len setting (drop (unmarked_len setting more) more) ≡ 0 → unmarked_len setting (drop (unless o (unmarked_len setting more)) (s ∷ more)) ≡ 0
    go None is rec =
        let one : 1 + unmarked_len setting more ≡ suc (unmarked_len setting more) = omega arith in
        ap (λ n. unmarked_len setting (drop n (s ∷ more))) one ∙ rec
    go (Some opening) is rec = ap (λ o. unless o (unmarked_len setting more)) is

-- the text before the first opening, and then the parts behind it
pub text_first : (setting : Setting) (signs : List Sign) → parts_of setting signs ≡ with_text (take (unmarked_len setting signs) (bytes_of signs)) (parts_of setting (drop (unmarked_len setting signs) signs))
text_first setting [] = refl
text_first setting (s ∷ more) = go (value_mark_at setting (s ∷ more)) refl (text_first setting more)
  where
    go : (o : Option ValueMark) → value_mark_at setting (s ∷ more) ≡ o
        → parts_of setting more ≡ with_text (take (unmarked_len setting more) (bytes_of more)) (parts_of setting (drop (unmarked_len setting more) more))
        → part_or o s more (λ skipped. parts_behind setting skipped more) ≡ with_text (take (unless o (unmarked_len setting more)) (bytes_of (s ∷ more))) (parts_of setting (drop (unless o (unmarked_len setting more)) (s ∷ more)))
    go None is rec =
        let one : suc (unmarked_len setting more) ≡ 1 + unmarked_len setting more = omega arith in
        ap (with_byte s.byte) rec
        ∙ byte_first s.byte (take (unmarked_len setting more) (bytes_of more)) (parts_of setting (drop (unmarked_len setting more) more)) (opened_other setting (drop (unmarked_len setting more) more) (unmarked_all setting more))
        ∙ ap (λ n. with_text (take n (bytes_of (s ∷ more))) (parts_of setting (drop n (s ∷ more)))) one
    go (Some opening) is rec = sym (ap (λ o. part_or o s more (λ skipped. parts_behind setting skipped more)) is)

-- where nothing opens behind the text nothing follows
pub text_all : (setting : Setting) (signs : List Sign) → value_mark_at setting (drop (unmarked_len setting signs) signs) ≡ None → drop (unmarked_len setting signs) signs ≡ []
text_all setting signs none = none_behind (value_mark_at setting) signs none

-- the parts behind signs that are passed over
pub parts_passed : (setting : Setting) (n : ℕ) (signs : List Sign) → parts_behind setting n signs ≡ parts_of setting (drop n signs)
parts_passed setting zero signs = refl
parts_passed setting (suc n) [] = refl
parts_passed setting (suc n) (s ∷ signs) = parts_passed setting n signs

-- a part that was read, and then the parts behind it
abbrev pub part_then : Result (Part × List ℕ) TranslationFault → (List ℕ → Result (List Part) TranslationFault) → Result (List Part) TranslationFault
part_then (Err fault) more = Err fault
part_then (Ok found) more = with_part found.0 (more found.1)

-- what stands before the brace, the brace, and what follows it
pub some_is : {A : Type 0} (x y : A) → Some x ≡ Some y → x ≡ y
some_is x y same = cc

further_len : (b : ℕ) (bytes : List ℕ) (inner : Option (List ℕ × List ℕ)) (found : List ℕ × List ℕ) → further b inner ≡ Some found
    → ((f : List ℕ × List ℕ) → inner ≡ Some f → length bytes ≡ length f.0 + 1 + length f.1) → suc (length bytes) ≡ length found.0 + 1 + length found.1
further_len b bytes None found is rec = absurd (cc)
further_len b bytes (Some f) found is rec =
    let same : (b ∷ f.0, f.1) ≡ found = some_is _ _ is in
    omega (arith, rec f refl, ap (λ p. length p.0) same, ap (λ p. length p.1) same)

pub brace_len : (state : Scanning) (text : List ℕ) (found : List ℕ × List ℕ) → around_brace state text ≡ Some found → length text ≡ length found.0 + 1 + length found.1
brace_len state [] found is = absurd (cc)
brace_len state (b ∷ bytes) found is = go (scan_byte state b) is (λ next. brace_len next bytes)
  where
    go : (step : Option Scanning) → brace_or step b bytes (λ next. around_brace next bytes) ≡ Some found
        → ((next : Scanning) (f : List ℕ × List ℕ) → around_brace next bytes ≡ Some f → length bytes ≡ length f.0 + 1 + length f.1) → suc (length bytes) ≡ length found.0 + 1 + length found.1
    go None is rec =
        let same : ([], bytes) ≡ found = some_is _ _ is in
        omega (arith, ap (λ p. length p.0) same, ap (λ p. length p.1) same)
    go (Some next) is rec = further_len b bytes (around_brace next bytes) found is (rec next)

-- the part that opens here, and then the parts behind it
pub opened : (setting : Setting) (signs : List Sign) (o : ValueMark) → value_mark_at setting signs ≡ Some o
    → parts_of setting signs ≡ part_then (part_behind o (drop 2 (bytes_of signs))) (λ rest. parts_of setting (drop (length signs - length rest) signs))
opened setting [] o is = absurd (cc)
opened setting (x ∷ []) o is = absurd (cc)
opened setting (x ∷ y ∷ more) value_marks.Hash is =
    let two : 2 ≡ suc (suc (length more)) - length (bytes_of more) = omega (arith, length-map more (λ s. s.byte)) in
    ap (λ o. part_or o x (y ∷ more) (λ skipped. parts_behind setting skipped (y ∷ more))) is
    ∙ ap (λ n. with_part parts.Hash (parts_of setting (drop n (x ∷ y ∷ more)))) two
opened setting (x ∷ y ∷ more) value_marks.Expression is =
    ap (λ o. part_or o x (y ∷ more) (λ skipped. parts_behind setting skipped (y ∷ more))) is
    ∙ go (around_brace nothing_open (bytes_of more)) (brace_len nothing_open (bytes_of more))
  where
    go : (found : Option (List ℕ × List ℕ)) → ((f : List ℕ × List ℕ) → found ≡ Some f → length (bytes_of more) ≡ length f.0 + 1 + length f.1)
        → with_expression found (λ skipped. parts_behind setting skipped (y ∷ more)) ≡ part_then (expression_or found) (λ rest. parts_of setting (drop (length (x ∷ y ∷ more) - length rest) (x ∷ y ∷ more)))
    go None len = refl
    go (Some f) len =
        let passed : suc (length f.0 + 2) ≡ suc (suc (length more)) - length f.1 = omega (arith, len f refl, length-map more (λ s. s.byte)) in
        ap (with_part (parts.Expr f.0)) (parts_passed setting (length f.0 + 2) (y ∷ more) ∙ ap (λ n. parts_of setting (drop n (x ∷ y ∷ more))) passed)
