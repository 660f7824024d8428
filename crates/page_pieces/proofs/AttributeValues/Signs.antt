-- A text with a flag for each of its bytes.
use Rattle.std.proofs.Common.{◌≡◌, ◌∙◌, ℕ, zero, suc, Bool, List, [], ◌∷◌, ◌++◌, length, drop, refl, ap, sym, arith}
use Rattle.std.specs.Prelude.{replicate}
use Rattle.page_pieces.specs.ReadSigns.{signs_with}
use Rattle.page_pieces.specs.Values.{sign, signs, bytes_of}

all_the_same : (text : List ℕ) (flag : Bool) → signs_with text (replicate (length text) flag) ≡ signs flag text
all_the_same [] flag = refl
all_the_same (b ∷ text) flag = ap (λ s. sign flag b ∷ s) (all_the_same text flag)

-- bytes more, with the same flag
pub signs_more : (text : List ℕ) (shields : List Bool) (more : List ℕ) (flag : Bool) → length text ≡ length shields
    → signs_with (text ++ more) (shields ++ replicate (length more) flag) ≡ signs_with text shields ++ signs flag more
signs_more [] [] more flag same = all_the_same more flag
signs_more [] (shielded ∷ shields) more flag same = absurd (omega arith)
signs_more (b ∷ text) [] more flag same = absurd (omega arith)
signs_more (b ∷ text) (shielded ∷ shields) more flag same = ap (λ s. sign shielded b ∷ s) (signs_more text shields more flag (omega arith))

-- the bytes of signs
pub bytes_are : (text : List ℕ) (shields : List Bool) → bytes_of (signs_with text shields) ≡ text
bytes_are [] shields = refl
bytes_are (b ∷ text) [] = ap (λ t. b ∷ t) (bytes_are text [])
bytes_are (b ∷ text) (shielded ∷ shields) = ap (λ t. b ∷ t) (bytes_are text shields)

pub signs_drop : (n : ℕ) (text : List ℕ) (shields : List Bool) → signs_with (drop n text) (drop n shields) ≡ drop n (signs_with text shields)
signs_drop zero text shields = refl
signs_drop (suc n) [] shields = refl
signs_drop (suc n) (b ∷ text) [] = ap (signs_with (drop n text)) (sym (drop_nothing n)) ∙ signs_drop n text []
  where
    drop_nothing : (n : ℕ) → drop {A = Bool} n [] ≡ []
    drop_nothing zero = refl
    drop_nothing (suc n) = refl
signs_drop (suc n) (b ∷ text) (shielded ∷ shields) = signs_drop n text shields
