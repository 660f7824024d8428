-- Where template text ends.
use Rattle.std.proofs.Common.{◌≡◌, ◌≤◌, ◌<◌, ◌+◌, ◌||◌, ◌&&◌, ◌∙◌, ℕ, suc, Bool, true, false, List, [], ◌∷◌, length, drop, get_or, refl, sym, ap, arith, Option, Some, None, eqb, add-one, one-add, drop-cons, nat_lt, ltb-true, subst, IsUtf8}
use borrow.Author.Tests.{ltb-false}
use Rattle.std.specs.Str.{IsCharBoundary}
use Rattle.std.proofs.lemmas.Str.{IsCharBoundary-before_ascii, IsCharBoundary-end}
use Rattle.std.specs.Option.{is_some}
use Rattle.std.proofs.lemmas.Bool.Decides.{nat_tests}
use Rattle.std.proofs.lemmas.List.{drop_all}
use Rattle.page_pieces.specs.declared.setting.Setting.{Setting}
use Rattle.page_pieces.specs.declared.mark.Mark.{Mark}
use Rattle.page_pieces.specs.Marks.{mark_at}
use Rattle.page_pieces.specs.Pieces.{text_len}
use Rattle.page_pieces.specs.Texts.{unless}
use Rattle.page_pieces.proofs.AtFront.Before.{before_within, found_here, none_here}

-- a byte with which a mark may begin
abbrev pub may_mark : ℕ → Bool
may_mark b = (eqb b 60) || (eqb b 92) || (eqb b 36) || (eqb b 35)

and_false : (x : Bool) → (x && false) ≡ false
and_false true = refl
and_false false = refl

-- no mark begins with another byte
unmarked : (setting : Setting) (b : ℕ) (bytes : List ℕ) → may_mark b ≡ false → mark_at setting (b ∷ bytes) ≡ None
unfolding mark_at
unmarked setting b bytes is =
    let e60 : eqb 60 b ≡ false = grind (arith, nat_tests) in
    let e92 : eqb 92 b ≡ false = grind (arith, nat_tests) in
    let e36 : eqb 36 b ≡ false = grind (arith, nat_tests) in
    let e35 : eqb 35 b ≡ false = grind (arith, nat_tests) in
    simp (e60, e92, e36, e35, and_false)

-- the count of template text, so many bytes of which are behind it
pub record Counted (setting : Setting) (text : List ℕ) (n : ℕ) : Type 0 where
  pub same : n + text_len setting (drop n text) ≡ text_len setting text

front_is : (text : List ℕ) (n b : ℕ) → n < length text → get_or text n 0 ≡ b → drop n text ≡ b ∷ drop (n + 1) text
front_is text n b within at = drop-cons text n 0 within ∙ (λ i. at i ∷ drop (sym (add-one n) i) text)

-- no mark stands here
pub one_more : {setting : Setting} {text : List ℕ} {n : ℕ} (b : ℕ) → Counted setting text n → n < length text → get_or text n 0 ≡ b → mark_at setting (drop n text) ≡ None → Counted setting text (n + 1)
one_more {setting} {text} {n} b so_far within at none =
    let count = none_here (mark_at setting) (drop n text) (drop (n + 1) text) b (front_is text n b within at) none in
    record { same = omega (arith, so_far.same, count) }

pub no_mark : (setting : Setting) (text : List ℕ) (n b : ℕ) → n < length text → get_or text n 0 ≡ b → may_mark b ≡ false → mark_at setting (drop n text) ≡ None
no_mark setting text n b within at is = ap (mark_at setting) (front_is text n b within at) ∙ unmarked setting b (drop (n + 1) text) is

-- a mark stands here
pub ends_here : {setting : Setting} {text : List ℕ} {n : ℕ} → Counted setting text n → is_some (mark_at setting (drop n text)) ≡ true → n ≡ text_len setting text
ends_here {setting} {text} {n} so_far is = omega (arith, so_far.same, found_here (mark_at setting) (drop n text) is)

-- the text is at its end
pub all_text : {setting : Setting} {text : List ℕ} {n : ℕ} → Counted setting text n → length text ≤ n → n ≡ text_len setting text
all_text {setting} {text} {n} so_far whole = omega (arith, so_far.same, ap (text_len setting) (drop_all n text whole))

pub none_there : (m : Option Mark) → is_some m ≡ false → m ≡ None
none_there None is = refl
none_there (Some mark) is = cc

-- template text ends where a mark may begin
mark_ends : (setting : Setting) (text : List ℕ) → text_len setting text < length text → may_mark (get_or text (text_len setting text) 0) ≡ true
mark_ends setting [] lt = absurd (omega arith)
mark_ends setting (b ∷ bytes) lt = go (mark_at setting (b ∷ bytes)) refl lt (mark_ends setting bytes)
  where
    marked : (here : Bool) → may_mark b ≡ here → (m : Mark) → mark_at setting (b ∷ bytes) ≡ Some m → may_mark b ≡ true
    marked true is m at = is
    marked false is m at = let none = unmarked setting b bytes is in cc

    go : (m : Option Mark) → mark_at setting (b ∷ bytes) ≡ m → unless m (text_len setting bytes) < suc (length bytes) → (text_len setting bytes < length bytes → may_mark (get_or bytes (text_len setting bytes) 0) ≡ true)
        → may_mark (get_or (b ∷ bytes) (unless m (text_len setting bytes)) 0) ≡ true
    go None is lt rec = ap (λ n. may_mark (get_or (b ∷ bytes) n 0)) (one-add (text_len setting bytes)) ∙ rec (omega arith)
    go (Some m) is lt rec = marked (may_mark b) refl m is

may_ascii : (b : ℕ) → may_mark b ≡ true → b < 128
may_ascii b is = grind (arith, nat_tests)

-- the text may be cut behind its template text
pub text_cut : (setting : Setting) (text : List ℕ) → IsUtf8 text → IsCharBoundary text (text_len setting text)
text_cut setting text utf8 = go (nat_lt (text_len setting text) (length text)) refl
  where
    go : (b : Bool) → nat_lt (text_len setting text) (length text) ≡ b → IsCharBoundary text (text_len setting text)
    go true is = let within = ltb-true _ _ is in IsCharBoundary-before_ascii text (text_len setting text) within (may_ascii _ (mark_ends setting text within))
    go false is = let whole : length text ≡ text_len setting text = omega (arith, before_within (mark_at setting) text, ltb-false _ _ is) in subst (IsCharBoundary text) whole (IsCharBoundary-end text)
