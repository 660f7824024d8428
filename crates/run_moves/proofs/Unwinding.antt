-- Loops that end: their variables go, the innermost first.
use Rattle.std.proofs.Common.{◌≡◌, ◌≤◌, ◌<◌, ◌-◌, ◌+◌, ℕ, List, [], ◌∷◌, ◌++◌, length, refl, sym, ap, ◌∙◌, subst, append_assoc, arith}
use Rattle.std.specs.Prelude.{take, drop, min}
use Rattle.out_buffer.specs.Writer.{last_of}
use Rattle.run_world.specs.Origin.{Origin}
use Rattle.run_world.specs.Part.{Changes}
use Rattle.page_meaning.specs.Loops.{without_named}
use Rattle.page_meaning.specs.State.{State}
use Rattle.page_table.specs.Landing.{unwound}
use Rattle.page_table.specs.Open.{Loop}

take_front : {A : Type 0} (xs ys : List A) → take (length xs) (xs ++ ys) ≡ xs
take_front [] ys = refl
take_front (x ∷ xs) ys = ap (λ z. x ∷ z) (take_front xs ys)

drop_front : {A : Type 0} (xs ys : List A) → drop (length xs) (xs ++ ys) ≡ ys
drop_front [] ys = refl
drop_front (x ∷ xs) ys = drop_front xs ys

long : {A : Type 0} (xs ys : List A) → length (xs ++ ys) ≡ length xs + length ys
long [] ys = omega arith
long (x ∷ xs) ys = let e = long xs ys in omega (arith, e)

unwound_more : (front : List Loop) (l : Loop) (s : State) → without_named l.status (without_named l.variable (unwound front s)) ≡ unwound (front ++ l ∷ []) s
unwound_more [] l s = refl
unwound_more (k ∷ front) l s = unwound_more front l (without_named k.status (without_named k.variable s))

-- these loops ended, and the others are still open, at least so many of them
pub record Unwound {W : Type 0} (reached : W → Origin → W → State → Type 0) (left : ℕ) (loops : List Loop) (world now : W) (rest : List Loop) : Type 0 where
  pub front : List Loop
  pub joined : loops ≡ front ++ rest
  pub enough : min (length loops) left ≤ length rest
  pub changes : Changes reached (unwound front) world now

module _ {W : Type 0} {reached : W → Origin → W → State → Type 0} where
  pub unwound_start : (left : ℕ) (loops : List Loop) (world : W) → Unwound reached left loops world world loops
  unwound_start left loops world = record { front = []; joined = refl; enough = omega arith; changes = record { by = λ first origin s h. h } }

  pub unwound_on : (left : ℕ) (loops : List Loop) (world now mid after : W) (l : Loop) (outer : List Loop) → Unwound reached left loops world now (l ∷ outer) → left < length (l ∷ outer)
      → Changes reached (without_named l.variable) now mid → Changes reached (without_named l.status) mid after → Unwound reached left loops world after outer
  unwound_on left loops world now mid after l outer u more one two = record {
    front = u.front ++ l ∷ [];
    joined = u.joined ∙ sym (append_assoc u.front (l ∷ []) outer);
    enough = omega (arith, more);
    changes = record {
      by = λ first origin s h.
          subst (reached first origin after) (unwound_more u.front l s)
          (two.by first origin (without_named l.variable (unwound u.front s)) (one.by first origin (unwound u.front s) (u.changes.by first origin s h)));
    };
  }

  -- how many loops ended
  ended : (left : ℕ) (loops : List Loop) (world now : W) (rest : List Loop) (u : Unwound reached left loops world now rest) → length rest ≤ left → length loops - left ≡ length u.front
  ended left loops world now rest u few =
      let e = ap length u.joined ∙ long u.front rest in
      let enough = u.enough in
      omega (arith, e, enough, few)

  pub unwound_rest : (left : ℕ) (loops : List Loop) (world now : W) (rest : List Loop) → Unwound reached left loops world now rest → length rest ≤ left → rest ≡ last_of left loops
  unwound_rest left loops world now rest u few =
      sym (drop_front u.front rest) ∙ ap (drop (length u.front)) (sym u.joined) ∙ ap (λ n. drop n loops) (sym (ended left loops world now rest u few))

  pub unwound_all : (left : ℕ) (loops : List Loop) (world now : W) (rest : List Loop) → Unwound reached left loops world now rest → length rest ≤ left
      → Changes reached (λ s. unwound (take (length loops - left) loops) s) world now
  unwound_all left loops world now rest u few = record {
    by = λ first origin s h.
        let e = sym (take_front u.front rest) ∙ ap (take (length u.front)) (sym u.joined) ∙ ap (λ n. take n loops) (sym (ended left loops world now rest u few)) in
        subst (λ front. reached first origin now (unwound front s)) e (u.changes.by first origin s h);
  }
