-- The escapes of a value, one after the other.
use Rattle.std.proofs.Common.{◌≡◌, ◌<◌, ◌≤◌, ◌+◌, ◌-◌, ◌∙◌, ℕ, zero, suc, Bool, true, false, cond, ltb, ◌&&◌, List, [], ◌∷◌, ◌++◌, length, take, drop, get_or, refl, ap, sym, arith, append_assoc, Option, Some, None, IsUtf8, codes, length-append, length-drop, subst}
use Rattle.std.specs.Str.{IsCharBoundary}
use Rattle.std.specs.List.{list_all}
use Rattle.std.specs.Option.{is_some}
use Rattle.std.proofs.lemmas.List.{append-nil, drop_more, get_or_append_left, get_or-drop}
use Rattle.std.proofs.lemmas.Str.{IsCharBoundary-end, IsCharBoundary-after_ascii, IsCharBoundary-before_ascii}
use Rattle.std.proofs.lemmas.Slice.Eq.{starts_is}
use Rattle.std.proofs.lemmas.Bool.Decides.{Decides-eqb, nat_tests}
use Rattle.page_pieces.specs.Texts.{begins, unless}
use Rattle.page_pieces.specs.ReadSigns.{plain_len}
use Rattle.page_pieces.specs.Values.{Escape, escape_at, escaped_or, Sign, sign, signs, signs_behind, signs_of}
use Rattle.page_pieces.proofs.AtFront.Before.{before_within, found_here, none_behind, none_here}

abbrev is_ascii : ℕ → Bool
is_ascii b = ltb b 128

ascii_at : (mark : List ℕ) (i : ℕ) → list_all is_ascii mark ≡ true → i < length mark → get_or mark i 0 < 128
ascii_at [] i all lt = absurd (omega arith)
ascii_at (b ∷ mark) zero all lt = grind (arith, nat_tests)
ascii_at (b ∷ mark) (suc i) all lt = ascii_at mark i (grind arith) (omega arith)

-- a mark of ASCII bytes stands at the front of a text, which is as long as the escape
pub record Begins (text : List ℕ) (found : Escape) : Type 0 where
  pub mark : List ℕ
  pub is : begins mark text ≡ true
  pub len : length mark ≡ found.len
  pub ascii : list_all is_ascii mark ≡ true
  pub some : 0 < length mark

-- this escape stands there, or another
first_or : (here : Bool) (mark text : List ℕ) (this found : Escape) (other : Option Escape) → (here ≡ true → begins mark text ≡ true) → length mark ≡ this.len → list_all is_ascii mark ≡ true → 0 < length mark
    → (other ≡ Some found → Begins text found) → cond here (Some this) other ≡ Some found → Begins text found
first_or true mark text this found other here len ascii some more is =
    let same : this ≡ found = cc in
    record { mark = mark; is = here refl; len = len ∙ ap (λ e. e.len) same; ascii = ascii; some = some }
first_or false mark text this found other here len ascii some more is = more is

both_true : (a b : Bool) → (a && b) ≡ true → b ≡ true
both_true true b is = is
both_true false b is = absurd (cc)

pub escape_begins : (el : Bool) (text : List ℕ) (found : Escape) → escape_at el text ≡ Some found → Begins text found
unfolding escape_at
escape_begins el text found is =
    first_or _ (codes "\\'") text _ found _ (λ t. t) refl refl (omega arith)
    (first_or _ (codes "\\\"") text _ found _ (λ t. t) refl refl (omega arith)
    (first_or _ (codes "\\\\") text _ found _ (λ t. t) refl refl (omega arith)
    (first_or _ (codes "<\\%") text _ found _ (λ t. t) refl refl (omega arith)
    (first_or _ (codes "%\\>") text _ found _ (λ t. t) refl refl (omega arith)
    (first_or _ (codes "&apos;") text _ found _ (λ t. t) refl refl (omega arith)
    (first_or _ (codes "&quot;") text _ found _ (λ t. t) refl refl (omega arith)
    (first_or _ (codes "\\$") text _ found _ (both_true el _) refl refl (omega arith)
    (first_or _ (codes "\\#") text _ found _ (both_true el _) refl refl (omega arith)
    (λ none. absurd (cc)))))))))) is

-- no escape stands behind so many bytes, where one more follows
pub plain_more : (el : Bool) (text : List ℕ) (i : ℕ) → i < length text → escape_at el (drop i text) ≡ None → plain_len el (drop i text) ≡ 1 + plain_len el (drop (i + 1) text)
plain_more el text i lt none = none_here (escape_at el) (drop i text) (drop (i + 1) text) (get_or text i 0) (drop_more text i 0 lt) none

pub plain_here : (el : Bool) (text : List ℕ) (found : Escape) → escape_at el text ≡ Some found → plain_len el text ≡ 0
plain_here el text found is = found_here (escape_at el) text (ap is_some is)

-- the signs of plain bytes, and then those of what follows
pub plain_signs : (el : Bool) (text : List ℕ) → signs_of el text ≡ signs false (take (plain_len el text) text) ++ signs_of el (drop (plain_len el text) text)
plain_signs el [] = refl
plain_signs el (b ∷ bytes) = go (escape_at el (b ∷ bytes)) refl (plain_signs el bytes)
  where
    go : (o : Option Escape) → escape_at el (b ∷ bytes) ≡ o
        → signs_of el bytes ≡ signs false (take (plain_len el bytes) bytes) ++ signs_of el (drop (plain_len el bytes) bytes)
        → escaped_or o b (λ skipped. signs_behind el skipped bytes) ≡ signs false (take (unless o (plain_len el bytes)) (b ∷ bytes)) ++ signs_of el (drop (unless o (plain_len el bytes)) (b ∷ bytes))
    go None is rec =
        let one : suc (plain_len el bytes) ≡ 1 + plain_len el bytes = omega arith in
        ap (λ s. sign false b ∷ s) rec ∙ ap (λ n. signs false (take n (b ∷ bytes)) ++ signs_of el (drop n (b ∷ bytes))) one
    go (Some found) is rec = sym (ap (λ o. escaped_or o b (λ skipped. signs_behind el skipped bytes)) is)

-- the signs behind bytes that are passed over
pub signs_passed : (el : Bool) (n : ℕ) (text : List ℕ) → signs_behind el n text ≡ signs_of el (drop n text)
signs_passed el zero text = refl
signs_passed el (suc n) [] = refl
signs_passed el (suc n) (b ∷ bytes) = signs_passed el n bytes

-- the text may be cut behind an escape, and what it means stands before the signs of the rest
pub record StandsAt (el : Bool) (text : List ℕ) (found : Escape) : Type 0 where
  pub some : 0 < found.len
  pub fits : found.len ≤ length text
  pub first : get_or text 0 0 < 128
  pub last : get_or text (found.len - 1) 0 < 128
  pub same : signs_of el text ≡ signs found.shields found.means ++ signs_of el (drop found.len text)

mark_first : (mark text : List ℕ) → begins mark text ≡ true → text ≡ mark ++ drop (length mark) text
mark_first mark text is = (starts_is Decides-eqb text mark (begins mark text) refl).0 is

signs_at : (el : Bool) (text : List ℕ) (found : Escape) → 0 < found.len → 0 < length text → escape_at el text ≡ Some found → signs_of el text ≡ signs found.shields found.means ++ signs_of el (drop found.len text)
signs_at el [] found some fits is = absurd (omega arith)
signs_at el (b ∷ bytes) found some fits is =
    let one : suc (found.len - 1) ≡ found.len = omega arith in
    ap (λ o. escaped_or o b (λ skipped. signs_behind el skipped bytes)) is
    ∙ ap (λ s. signs found.shields found.means ++ s) (signs_passed el (found.len - 1) bytes ∙ ap (λ n. signs_of el (drop n (b ∷ bytes))) one)

pub stands_at : (el : Bool) (text : List ℕ) (found : Escape) → escape_at el text ≡ Some found → StandsAt el text found
stands_at el text found is =
    let first = escape_begins el text found is in
    let cut = mark_first first.mark text first.is in
    let fits : found.len ≤ length text = omega (arith, first.len, ap length cut, length-append first.mark (drop (length first.mark) text)) in
    let some : 0 < found.len = omega (arith, first.some, first.len) in
    record {
      some = some;
      fits = fits;
      first = omega (arith, ap (λ t. get_or t 0 0) cut, get_or_append_left first.mark (drop (length first.mark) text) 0 0 first.some, ascii_at first.mark 0 first.ascii first.some);
      last =
          let within : found.len - 1 < length first.mark = omega (arith, first.len, first.some) in
          omega (arith, ap (λ t. get_or t (found.len - 1) 0) cut, get_or_append_left first.mark (drop (length first.mark) text) 0 (found.len - 1) within, ascii_at first.mark (found.len - 1) first.ascii within);
      same = signs_at el text found some (omega arith) is;
    }

-- the text may be cut behind an escape
pub escape_cut : (el : Bool) (text : List ℕ) (found : Escape) → IsUtf8 text → escape_at el text ≡ Some found → IsCharBoundary text found.len
escape_cut el text found utf8 is =
    let at = stands_at el text found is in
    let one : found.len - 1 + 1 ≡ found.len = omega (arith, at.some) in
    subst (IsCharBoundary text) one (IsCharBoundary-after_ascii text (found.len - 1) utf8 (omega (arith, at.some, at.fits)) at.last)

-- the text may be cut before an escape, and at its end
pub plain_cut : (el : Bool) (text : List ℕ) → IsCharBoundary text (plain_len el text)
plain_cut el text = go (escape_at el (drop (plain_len el text) text)) refl
  where
    go : (o : Option Escape) → escape_at el (drop (plain_len el text) text) ≡ o → IsCharBoundary text (plain_len el text)
    go None is =
        let all : plain_len el text ≡ length text = omega (arith, before_within (escape_at el) text, ap length (none_behind (escape_at el) text is), length-drop (plain_len el text) text) in
        subst (IsCharBoundary text) (sym all) (IsCharBoundary-end text)
    go (Some found) is =
        let at = stands_at el (drop (plain_len el text) text) found is in
        let here : plain_len el text + 0 ≡ plain_len el text = omega arith in
        IsCharBoundary-before_ascii text (plain_len el text) (omega (arith, at.some, at.fits, length-drop (plain_len el text) text))
        (omega (arith, at.first, get_or-drop (plain_len el text) text 0 0, ap (λ n. get_or text n 0) here))

-- an escape more: what it means stands behind the plain bytes before it
pub escape_step : (el : Bool) (before after more_after : List Sign) (rest plain behind more : List ℕ) (n : ℕ) (found : Escape) → n ≡ plain_len el rest → plain ≡ take n rest → behind ≡ drop n rest → escape_at el behind ≡ Some found → more ≡ drop found.len behind
    → after ≡ before ++ signs false plain → more_after ≡ after ++ signs found.shields found.means → more_after ++ signs_of el more ≡ before ++ signs_of el rest
escape_step el before after more_after rest plain behind more n found n_is plain_is behind_is is more_is after_is more_after_is =
    (λ i. (more_after_is ∙ ap (λ s. s ++ signs found.shields found.means) after_is) i ++ signs_of el (more_is i))
    ∙ append_assoc (before ++ signs false plain) (signs found.shields found.means) (signs_of el (drop found.len behind))
    ∙ append_assoc before (signs false plain) (signs found.shields found.means ++ signs_of el (drop found.len behind))
    ∙ ap (λ s. before ++ (signs false plain ++ s)) (sym (stands_at el behind found is).same)
    ∙ (λ i. before ++ (signs false (plain_is i) ++ signs_of el (behind_is i)))
    ∙ ap (λ m. before ++ (signs false (take m rest) ++ signs_of el (drop m rest))) n_is
    ∙ ap (λ s. before ++ s) (sym (plain_signs el rest))

-- no escape more
pub no_escape : (el : Bool) (before after : List Sign) (rest plain behind : List ℕ) (n : ℕ) → n ≡ plain_len el rest → plain ≡ take n rest → behind ≡ drop n rest → escape_at el behind ≡ None → after ≡ before ++ signs false plain → after ≡ before ++ signs_of el rest
no_escape el before after rest plain behind n n_is plain_is behind_is none after_is =
    let nothing : drop (plain_len el rest) rest ≡ [] = none_behind (escape_at el) rest (ap (escape_at el) (sym (behind_is ∙ ap (λ m. drop m rest) n_is)) ∙ none) in
    after_is ∙ ap (λ s. before ++ signs false s) (plain_is ∙ ap (λ m. take m rest) n_is)
    ∙ ap (λ s. before ++ s) (sym (append-nil (signs false (take (plain_len el rest) rest))) ∙ ap (λ t. signs false (take (plain_len el rest) rest) ++ signs_of el t) (sym nothing) ∙ sym (plain_signs el rest))
