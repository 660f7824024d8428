-- What opens in a value, looked for from left to right.
use Rattle.std.proofs.Common.{◌≡◌, ◌≤◌, ◌<◌, ◌+◌, ℕ, Bool, false, List, [], ◌∷◌, length, drop, get_or, refl, ap, arith, Some, None}
use Rattle.std.specs.Option.{is_some}
use Rattle.std.proofs.lemmas.List.{drop_more}
use Rattle.page_pieces.specs.declared.value_mark.ValueMark.{ValueMark}
use Rattle.page_pieces.specs.declared.setting.Setting.{Setting}
use Rattle.page_pieces.specs.ReadSigns.{signs_with, unmarked_len}
use Rattle.page_pieces.specs.Values.{Sign, sign, value_mark_of, value_mark_at}
use Rattle.page_pieces.proofs.AtFront.Before.{found_here, none_here}

pub opens_at : (setting : Setting) (text : List ℕ) (shields : List Bool) → 2 ≤ length text → value_mark_at setting (signs_with text shields) ≡ value_mark_of setting (sign (get_or shields 0 false) (get_or text 0 0)) (sign false (get_or text 1 0))
opens_at setting [] shields two = absurd (omega arith)
opens_at setting (x ∷ []) shields two = absurd (omega arith)
opens_at setting (x ∷ y ∷ text) [] two = refl
opens_at setting (x ∷ y ∷ text) (s ∷ []) two = refl
opens_at setting (x ∷ y ∷ text) (s ∷ t ∷ shields) two = refl

pub too_short : (setting : Setting) (text : List ℕ) (shields : List Bool) → length text < 2 → value_mark_at setting (signs_with text shields) ≡ None
too_short setting [] shields short = refl
too_short setting (x ∷ []) [] short = refl
too_short setting (x ∷ []) (s ∷ shields) short = refl
too_short setting (x ∷ y ∷ text) shields short = absurd (omega arith)

-- nothing opens behind so many bytes, where one more follows
pub unmarked_more : (setting : Setting) (text : List ℕ) (shields : List Bool) (i : ℕ) → i < length text → i < length shields → value_mark_at setting (signs_with (drop i text) (drop i shields)) ≡ None
    → unmarked_len setting (signs_with (drop i text) (drop i shields)) ≡ 1 + unmarked_len setting (signs_with (drop (i + 1) text) (drop (i + 1) shields))
unmarked_more setting text shields i lt shields_lt none =
    none_here (value_mark_at setting) (signs_with (drop i text) (drop i shields)) (signs_with (drop (i + 1) text) (drop (i + 1) shields)) (sign (get_or shields i false) (get_or text i 0))
    (λ j. signs_with (drop_more text i 0 lt j) (drop_more shields i false shields_lt j)) none

pub unmarked_here : (setting : Setting) (signs : List Sign) (opening : ValueMark) → value_mark_at setting signs ≡ Some opening → unmarked_len setting signs ≡ 0
unmarked_here setting signs opening is = found_here (value_mark_at setting) signs (ap is_some is)
