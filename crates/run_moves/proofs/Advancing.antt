-- The innermost loop, which stands last among those that are held.
use Rattle.std.proofs.Common.{◌≡◌, ◌<◌, ◌≤◌, ℕ, zero, suc, List, [], ◌∷◌, ◌++◌, length, get_or, refl, sym, ap, ◌∙◌, subst, arith}
use Rattle.std.specs.Prelude.{map, reverse, slice_set}
use Rattle.std.proofs.lemmas.List.{reverse-append}
use Rattle.page_table.specs.Open.{Loop}
use Rattle.run_moves.proofs.RoundArms.{same_first}
use Rattle.run_moves.specs.Loops.{advanced, loop_of}
use Rattle.run_moves.specs.declared.loops.Loop as machine_loop
use Rattle.run_values.specs.Rounds.{behind_round}

-- the last of a list, and the list with another one in its place, seen from their end
record Last {A B : Type 0} (f : A → B) (xs : List A) (n : ℕ) (w d : A) : Type 0 where
  last : A
  rest : List B
  seen : reverse (map f xs) ≡ f last ∷ rest
  changed : reverse (map f (slice_set xs n w)) ≡ f w ∷ rest
  there : get_or xs n d ≡ last

last_at : {A B : Type 0} (f : A → B) (xs : List A) (n : ℕ) (w d : A) → length xs ≡ suc n → Last f xs n w d
last_at f [] n w d h = absurd (omega (arith, h))
last_at f (x ∷ []) zero w d h = record { last = x; rest = []; seen = refl; changed = refl; there = refl }
last_at f (x ∷ []) (suc n) w d h = absurd (omega (arith, h))
last_at f (x ∷ y ∷ xs) zero w d h = absurd (omega (arith, h))
last_at f (x ∷ y ∷ xs) (suc n) w d h =
    let r = last_at f (y ∷ xs) n w d (omega (arith, h)) in
    record {
      last = r.last;
      rest = r.rest ++ f x ∷ [];
      seen = reverse-append (f x ∷ []) (map f (y ∷ xs)) ∙ ap (λ z. z ++ f x ∷ []) r.seen;
      changed = reverse-append (f x ∷ []) (map f (slice_set (y ∷ xs) n w)) ∙ ap (λ z. z ++ f x ∷ []) r.changed;
      there = r.there;
    }

-- no loop is open
pub none_advanced : (held : List machine_loop.Loop) (seen : List Loop) → reverse (map loop_of held) ≡ seen → (0 < length held → ⊥) → reverse (map loop_of held) ≡ advanced seen
none_advanced [] seen e none = subst (λ z. [] ≡ advanced z) e refl
none_advanced (l ∷ held) seen e none = absurd (none (omega arith))

-- the innermost loop goes on
pub last_advanced : (held : List machine_loop.Loop) (n : ℕ) (innermost changed : machine_loop.Loop) (seen : List Loop) → length held ≡ suc n → innermost ≡ get_or held n innermost
    → loop_of changed ≡ (let l = loop_of innermost in record l { rounds = behind_round l.rounds }) → reverse (map loop_of held) ≡ seen → reverse (map loop_of (slice_set held n changed)) ≡ advanced seen
last_advanced held n innermost changed seen h is e view =
    let r = last_at loop_of held n changed innermost h in
    let same : innermost ≡ r.last = is ∙ r.there in
    r.changed ∙ ap (λ l. l ∷ r.rest) (e ∙ ap (λ x. let l = loop_of x in record l { rounds = behind_round l.rounds }) same) ∙ ap advanced (sym r.seen ∙ view)

-- there is a loop where one is open
pub none_open : (held : List machine_loop.Loop) (seen : List Loop) → reverse (map loop_of held) ≡ seen → (0 < length held → ⊥) → 1 ≤ length seen → ⊥
none_open [] seen e none some = omega (arith, ap length e, some)
none_open (l ∷ held) seen e none some = none (omega arith)

-- the innermost loop changes unseen
pub last_kept : (held : List machine_loop.Loop) (n : ℕ) (innermost changed : machine_loop.Loop) (seen : List Loop) → length held ≡ suc n → innermost ≡ get_or held n innermost
    → loop_of changed ≡ loop_of innermost → reverse (map loop_of held) ≡ seen → reverse (map loop_of (slice_set held n changed)) ≡ seen
last_kept held n innermost changed seen h is e view =
    let r = last_at loop_of held n changed innermost h in
    r.changed ∙ ap (λ l. l ∷ r.rest) (e ∙ ap loop_of (is ∙ r.there)) ∙ sym r.seen ∙ view

-- it is seen first
pub last_seen : (held : List machine_loop.Loop) (n : ℕ) (innermost : machine_loop.Loop) (seen : List Loop) → length held ≡ suc n → innermost ≡ get_or held n innermost
    → reverse (map loop_of held) ≡ seen → (l : Loop) (outer : List Loop) → seen ≡ l ∷ outer → loop_of innermost ≡ l
last_seen held n innermost seen h is view l outer first =
    let r = last_at loop_of held n innermost innermost h in
    same_first (loop_of innermost) l r.rest outer (ap (λ x. loop_of x ∷ r.rest) (is ∙ r.there) ∙ sym r.seen ∙ view ∙ first)
