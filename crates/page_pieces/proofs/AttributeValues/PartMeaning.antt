-- The parts that are read of a value's signs are the parts that the grammar has, both ways.
use Rattle.std.proofs.Common.{◌≡◌, ◌≢◌, ◌+◌, ◌∙◌, ℕ, zero, suc, List, [], ◌∷◌, ◌++◌, length, drop, refl, ap, sym, subst, arith, Option, Some, None, Result, Ok, Err}
use Rattle.pg_text.specs.declared.translation_fault.TranslationFault.{TranslationFault}
use Rattle.pg_text.specs.declared.translation_fault.TranslationFault.TheVariants as faults
use Rattle.page_pieces.specs.declared.value_mark.ValueMark.{ValueMark}
use Rattle.page_pieces.specs.declared.value_mark.ValueMark.TheVariants as value_marks
use Rattle.page_pieces.specs.declared.attribute.Part.{Part}
use Rattle.page_pieces.specs.declared.attribute.Part.TheVariants as parts
use Rattle.page_pieces.specs.declared.setting.Setting.{Setting}
use Rattle.page_pieces.specs.Values.{Sign, bytes_of, value_mark_at, IsUnmarked, BeginsNoText, AreParts}
use Rattle.page_pieces.specs.ReadExpression.{nothing_open, around_brace}
use Rattle.page_pieces.specs.ReadValue.{byte_before, with_byte, with_part, with_expression, part_or, parts_behind, parts_of}
use Rattle.page_pieces.proofs.Expressions.Found.{end_found}
use Rattle.page_pieces.proofs.Expressions.Ends.{end_is}
use Rattle.page_pieces.proofs.AttributeValues.Parts.{with_text, BeginsOther, byte_first, parts_passed}

-- text in which nothing opens, and then the parts behind it
text_read : (setting : Setting) (front behind : List Sign) (more : Result (List Part) TranslationFault) → IsUnmarked setting front behind → parts_of setting behind ≡ more → BeginsOther more
    → parts_of setting (front ++ behind) ≡ with_text (bytes_of front) more
text_read setting [] behind more opens is other = is
text_read setting (s ∷ front) behind more opens is other =
    ap (λ o. part_or o s (front ++ behind) (λ skipped. parts_behind setting skipped (front ++ behind))) opens.0
    ∙ ap (with_byte s.byte) (text_read setting front behind more opens.1 is other)
    ∙ byte_first s.byte (bytes_of front) more other

other_is : (made : List Part) → BeginsNoText made → BeginsOther (Ok made)
other_is [] textless = tt
other_is (parts.Text text ∷ made) textless = absurd textless
other_is (parts.Expr text ∷ made) textless = tt
other_is (parts.Hash ∷ made) textless = tt

text_made : (front : List Sign) (text : List ℕ) (made : List Part) → front ≢ [] → text ≡ bytes_of front → with_text (bytes_of front) (Ok made) ≡ Ok (parts.Text text ∷ made)
text_made [] text made some is = absurd (some refl)
text_made (s ∷ front) text made some is = ap (λ t. Ok (parts.Text t ∷ made)) (sym is)

hash_read : (setting : Setting) (signs : List Sign) (made : List Part) → value_mark_at setting signs ≡ Some value_marks.Hash → parts_of setting (drop 2 signs) ≡ Ok made → parts_of setting signs ≡ Ok (parts.Hash ∷ made)
hash_read setting [] made opens is = cc
hash_read setting (x ∷ []) made opens is = cc
hash_read setting (x ∷ y ∷ signs) made opens is =
    ap (λ o. part_or o x (y ∷ signs) (λ skipped. parts_behind setting skipped (y ∷ signs))) opens ∙ ap (with_part parts.Hash) is

expression_read : (setting : Setting) (signs : List Sign) (inside behind : List ℕ) (made : List Part) → value_mark_at setting signs ≡ Some value_marks.Expression
    → around_brace nothing_open (bytes_of (drop 2 signs)) ≡ Some (inside, behind) → parts_of setting (drop (3 + length inside) signs) ≡ Ok made → parts_of setting signs ≡ Ok (parts.Expr inside ∷ made)
expression_read setting [] inside behind made opens ends is = cc
expression_read setting (x ∷ []) inside behind made opens ends is = cc
expression_read setting (x ∷ y ∷ signs) inside behind made opens ends is =
    ap (λ o. part_or o x (y ∷ signs) (λ skipped. parts_behind setting skipped (y ∷ signs))) opens
    ∙ ap (λ found. with_expression found (λ skipped. parts_behind setting skipped (y ∷ signs))) ends
    ∙ ap (with_part (parts.Expr inside)) (parts_passed setting (length inside + 2) (y ∷ signs) ∙ ap (λ n. parts_of setting (drop n (x ∷ y ∷ signs))) passed ∙ is)
  where
    passed : suc (length inside + 2) ≡ 3 + length inside
    passed = omega arith

-- the parts of the grammar are read
pub parts_read : (setting : Setting) (signs : List Sign) (made : List Part) → AreParts setting signs made → parts_of setting signs ≡ Ok made
parts_read setting signs [] are = ap (parts_of setting) are
parts_read setting signs (parts.Text text ∷ made) (front, behind, cut, some, text_is, opens, textless, are) =
    ap (parts_of setting) cut ∙ text_read setting front behind (Ok made) opens (parts_read setting behind made are) (other_is made textless) ∙ text_made front text made some text_is
parts_read setting signs (parts.Expr inside ∷ made) (opens, behind, ends, are) =
    expression_read setting signs inside behind made opens (end_found (bytes_of (drop 2 signs)) inside behind ends) (parts_read setting (drop (3 + length inside) signs) made are)
parts_read setting signs (parts.Hash ∷ made) (opens, are) = hash_read setting signs made opens (parts_read setting (drop 2 signs) made are)

-- a byte in which nothing opens, before parts
byte_are : (setting : Setting) (s : Sign) (signs : List Sign) (made : List Part) → value_mark_at setting (s ∷ signs) ≡ None → AreParts setting signs made → AreParts setting (s ∷ signs) (byte_before s.byte made)
byte_are setting s signs [] none are = (s ∷ [], [], ap (λ t. s ∷ t) are, (λ empty. cc), refl, (ap (λ t. value_mark_at setting (s ∷ t)) (sym are) ∙ none, tt), tt, refl)
byte_are setting s signs (parts.Text text ∷ made) none (front, behind, cut, some, text_is, opens, textless, are) =
    (s ∷ front, behind, ap (λ t. s ∷ t) cut, (λ empty. cc), ap (λ t. s.byte ∷ t) text_is, (ap (λ t. value_mark_at setting (s ∷ t)) (sym cut) ∙ none, opens), textless, are)
byte_are setting s signs (parts.Expr inside ∷ made) none are = (s ∷ [], signs, refl, (λ empty. cc), refl, (none, tt), tt, are)
byte_are setting s signs (parts.Hash ∷ made) none are = (s ∷ [], signs, refl, (λ empty. cc), refl, (none, tt), tt, are)

-- parts before which another stands
record Behind (setting : Setting) (read : Result (List Part) TranslationFault) (part : Part) (made : List Part) : Type 0 where
  more : List Part
  is : read ≡ Ok more
  made_is : part ∷ more ≡ made

part_behind_is : (setting : Setting) (read : Result (List Part) TranslationFault) (part : Part) (made : List Part) → with_part part read ≡ Ok made → Behind setting read part made
part_behind_is setting (Ok more) part made is = record { more = more; is = refl; made_is = cc }
part_behind_is setting (Err fault) part made is = cc

record ByteBehind (setting : Setting) (read : Result (List Part) TranslationFault) (b : ℕ) (made : List Part) : Type 0 where
  more : List Part
  is : read ≡ Ok more
  made_is : byte_before b more ≡ made

byte_behind_is : (setting : Setting) (read : Result (List Part) TranslationFault) (b : ℕ) (made : List Part) → with_byte b read ≡ Ok made → ByteBehind setting read b made
byte_behind_is setting (Ok more) b made is = record { more = more; is = refl; made_is = cc }
byte_behind_is setting (Err fault) b made is = cc

-- what is read are the parts of the grammar
pub parts_are : (setting : Setting) (skipped : ℕ) (signs : List Sign) (made : List Part) → parts_behind setting skipped signs ≡ Ok made → AreParts setting (drop skipped signs) made
parts_are setting zero [] [] is = refl
parts_are setting zero [] (part ∷ made) is = cc
parts_are setting (suc skipped) [] [] is = refl
parts_are setting (suc skipped) [] (part ∷ made) is = cc
parts_are setting (suc skipped) (s ∷ signs) made is = parts_are setting skipped signs made is
parts_are setting zero (s ∷ signs) made is = go (value_mark_at setting (s ∷ signs)) refl is (λ skipped made. parts_are setting skipped signs made)
  where
    go : (o : Option ValueMark) → value_mark_at setting (s ∷ signs) ≡ o → part_or o s signs (λ skipped. parts_behind setting skipped signs) ≡ Ok made
        → ((skipped : ℕ) (made : List Part) → parts_behind setting skipped signs ≡ Ok made → AreParts setting (drop skipped signs) made) → AreParts setting (s ∷ signs) made
    go None at e rec =
        let found = byte_behind_is setting (parts_behind setting 0 signs) s.byte made e in
        subst (AreParts setting (s ∷ signs)) found.made_is (byte_are setting s signs found.more at (rec 0 found.more found.is))
    go (Some value_marks.Hash) at e rec =
        let found = part_behind_is setting (parts_behind setting 1 signs) parts.Hash made e in
        subst (AreParts setting (s ∷ signs)) found.made_is (at, rec 1 found.more found.is)
    go (Some value_marks.Expression) at e rec = expression (around_brace nothing_open (bytes_of (drop 1 signs))) refl e
      where
        expression : (ends : Option (List ℕ × List ℕ)) → around_brace nothing_open (bytes_of (drop 1 signs)) ≡ ends → with_expression ends (λ skipped. parts_behind setting skipped signs) ≡ Ok made → AreParts setting (s ∷ signs) made
        expression None ends e = cc
        expression (Some f) ends e =
            let found = part_behind_is setting (parts_behind setting (length f.0 + 2) signs) (parts.Expr f.0) made e in
            let passed : suc (length f.0 + 2) ≡ 3 + length f.0 = omega arith in
            subst (AreParts setting (s ∷ signs)) found.made_is
            (at, f.1, end_is (bytes_of (drop 1 signs)) f.0 f.1 ends, subst (λ n. AreParts setting (drop n (s ∷ signs)) found.more) passed (rec (length f.0 + 2) found.more found.is))

-- a fault of parts is that an expression has no end
pub fault_is_unclosed : (setting : Setting) (skipped : ℕ) (signs : List Sign) (fault : TranslationFault) → parts_behind setting skipped signs ≡ Err fault → fault ≡ faults.Unclosed
fault_is_unclosed setting zero [] fault is = cc
fault_is_unclosed setting (suc skipped) [] fault is = cc
fault_is_unclosed setting (suc skipped) (s ∷ signs) fault is = fault_is_unclosed setting skipped signs fault is
fault_is_unclosed setting zero (s ∷ signs) fault is = go (value_mark_at setting (s ∷ signs)) is (λ skipped. fault_is_unclosed setting skipped signs fault)
  where
    byte : (read : Result (List Part) TranslationFault) (b : ℕ) → with_byte b read ≡ Err fault → read ≡ Err fault
    byte (Ok more) b e = cc
    byte (Err other) b e = cc

    one : (read : Result (List Part) TranslationFault) (part : Part) → with_part part read ≡ Err fault → read ≡ Err fault
    one (Ok more) part e = cc
    one (Err other) part e = cc

    go : (o : Option ValueMark) → part_or o s signs (λ skipped. parts_behind setting skipped signs) ≡ Err fault → ((skipped : ℕ) → parts_behind setting skipped signs ≡ Err fault → fault ≡ faults.Unclosed) → fault ≡ faults.Unclosed
    go None e rec = rec 0 (byte (parts_behind setting 0 signs) s.byte e)
    go (Some value_marks.Hash) e rec = rec 1 (one (parts_behind setting 1 signs) parts.Hash e)
    go (Some value_marks.Expression) e rec = expression (around_brace nothing_open (bytes_of (drop 1 signs))) e
      where
        expression : (ends : Option (List ℕ × List ℕ)) → with_expression ends (λ skipped. parts_behind setting skipped signs) ≡ Err fault → fault ≡ faults.Unclosed
        expression None e = cc
        expression (Some f) e = rec (length f.0 + 2) (one (parts_behind setting (length f.0 + 2) signs) (parts.Expr f.0) e)
