-- Where a mark stands in a text.
use Rattle.std.proofs.Common.{◌≡◌, ◌≤◌, ◌<◌, ◌∙◌, ℕ, zero, suc, Bool, true, false, cond, List, [], ◌∷◌, ◌++◌, length, take, drop, refl, sym, ap, arith, Option, Some, None, Bor, MatchOption, length-append, subst, IsUtf8}
use Rattle.std.proofs.Math.Seq.{take-append_seam}
use Rattle.std.specs.Str.{IsCharBoundary}
use Rattle.std.proofs.lemmas.Str.{IsCharBoundary-from_take}
use Rattle.std.proofs.lemmas.Slice.Eq.{starts_is}
use Rattle.std.proofs.lemmas.Bool.Decides.{Decides-eqb}
use Rattle.std.specs.Option.{option_map}
use Rattle.std.specs.Str.Pattern.{FindsText, FindsTextPrefix, LacksTextAt, StripsPrefix, SplitsAroundMatch}
use Rattle.page_pieces.specs.Texts.{begins, after, further, around}

drop_front : (mark rest : List ℕ) → drop (length mark) (mark ++ rest) ≡ rest
drop_front [] rest = refl
drop_front (b ∷ mark) rest = drop_front mark rest

-- a text with the mark at its front begins with it
pub begins_with : (mark text rest : List ℕ) → text ≡ mark ++ rest → begins mark text ≡ true
begins_with mark text rest is = (starts_is Decides-eqb text mark _ refl).1 rest is

pub begun : (mark text : List ℕ) → begins mark text ≡ true → text ≡ mark ++ drop (length mark) text
begun mark text is = (starts_is Decides-eqb text mark _ refl).0 is

not_begun : (mark text : List ℕ) → LacksTextAt mark text 0 → (b : Bool) → begins mark text ≡ b → begins mark text ≡ false
not_begun mark text lacks true is = absurd (lacks _ (begun mark text is))
not_begun mark text lacks false is = is

taken : {A : Type 0} (b : Bool) (x y : A) → b ≡ true → cond b x y ≡ x
taken true x y is = refl
taken false x y is = cc

left : {A : Type 0} (b : Bool) (x y : A) → b ≡ false → cond b x y ≡ y
left true x y is = cc
left false x y is = refl

pub after_is : (r : Option (Bor (List ℕ))) (mark text : List ℕ) → MatchOption r (FindsTextPrefix mark text None) (λ x. StripsPrefix (FindsTextPrefix mark) text x.now) → option_map (λ rest. rest.now) r ≡ after mark text
after_is None mark text h = sym (left _ _ _ (not_begun mark text h (begins mark text) refl))
after_is (Some x) mark text h = ap Some (h.2 ∙ ap (λ n. drop n text) h.1.0) ∙ sym (taken _ _ _ (begins_with mark text _ h.1.1))

around_first : (mark text rest : List ℕ) → 0 < length mark → text ≡ mark ++ rest → around mark text ≡ Some ([], rest)
around_first mark [] rest some is = absurd (omega (arith, ap length is, length-append mark rest))
around_first mark (b ∷ bytes) rest some is = taken _ _ _ (begins_with mark (b ∷ bytes) rest is) ∙ ap (λ t. Some ([], t)) (ap (drop (length mark)) is ∙ drop_front mark rest)

around_at : (mark text : List ℕ) (i : ℕ) (rest : List ℕ) → 0 < length mark → ((k : ℕ) → k < i → LacksTextAt mark text k) → drop i text ≡ mark ++ rest → around mark text ≡ Some (take i text, rest)
around_at mark text zero rest some lacks is = around_first mark text rest some is
around_at mark [] (suc i) rest some lacks is = absurd (omega (arith, ap length is, length-append mark rest))
around_at mark (b ∷ bytes) (suc i) rest some lacks is =
    left _ _ _ (not_begun mark (b ∷ bytes) (lacks 0 (omega arith)) (begins mark (b ∷ bytes)) refl)
    ∙ ap (further b) (around_at mark bytes i rest some (λ k lt. lacks (suc k) (omega arith)) is)

around_nowhere : (mark text : List ℕ) → ((i : ℕ) → i ≤ length text → LacksTextAt mark text i) → around mark text ≡ None
around_nowhere mark [] lacks = refl
around_nowhere mark (b ∷ bytes) lacks =
    left _ _ _ (not_begun mark (b ∷ bytes) (lacks 0 (omega arith)) (begins mark (b ∷ bytes)) refl)
    ∙ ap (further b) (around_nowhere mark bytes (λ i lt. lacks (suc i) (omega arith)))

pub around_is : (r : Option (Bor (List ℕ) × Bor (List ℕ))) (mark text : List ℕ) → 0 < length mark → MatchOption r (FindsText mark text None) (λ x. SplitsAroundMatch (FindsText mark) text x.0.now x.1.now) → option_map (λ x. (x.0.now, x.1.now)) r ≡ around mark text
around_is None mark text some h = sym (around_nowhere mark text h)
around_is (Some x) mark text some h = (λ i. Some (h.3 i, h.4 i)) ∙ sym (around_at mark text h.0 (drop h.1 text) some h.2.0 h.2.1.split)

-- the text may be cut behind the mark
pub mark_boundary : (mark text : List ℕ) → IsUtf8 text → IsUtf8 mark → begins mark text ≡ true → IsCharBoundary text (length mark)
mark_boundary mark text utf8 mark_utf8 is =
    let whole = begun mark text is in
    IsCharBoundary-from_take text (length mark) utf8 (omega (arith, ap length whole, length-append mark (drop (length mark) text)))
    (subst IsUtf8 (sym (ap (take (length mark)) whole ∙ take-append_seam mark (drop (length mark) text))) mark_utf8)
