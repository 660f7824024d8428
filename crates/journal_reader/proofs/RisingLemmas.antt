-- Keys that each stand behind the one before rise.
use Rattle.std.proofs.Common.{◌≡◌, ℕ, zero, suc, ◌+◌, ◌-◌, ◌<◌, ◌≤◌, List, [], ◌∷◌, length, get_or, map, refl, sym, ap, ◌∙◌, arith, inl, inr, true, false}
use Rattle.std.proofs.lemmas.Bool.{cases_lt}
use Rattle.std.proofs.lemmas.Cmp.{nat_list_cmp_total}
use Rattle.std.proofs.lemmas.Map.Keys.{sorted_from_all_adjacent}
use Rattle.std.specs.Cmp.Lexicographic.{slice_cmp}
use Rattle.std.specs.List.Sorted.{IsStrictlySortedBy}
use Rattle.std.specs.Ordering.{is_lt, nat_cmp}
use Rattle.std.specs.declared.cmp.Ordering.{Ordering}
use Rattle.std.specs.declared.cmp.Ordering.TheVariants.{Less, Equal, Greater}

is_less : (o : Ordering) → is_lt o ≡ true → o ≡ Less
is_less Less is = refl
is_less Equal is = cc
is_less Greater is = cc

-- each of the first keys is below the next
abbrev pub RiseUpTo : ℕ → List (List ℕ) → Type 0
RiseUpTo n keys = (k : ℕ) (d : List ℕ) → k + 1 < n → is_lt (slice_cmp nat_cmp (get_or keys k d) (get_or keys (k + 1) d)) ≡ true

length_keys : {A : Type 0} (key : A → List ℕ) (items : List A) → length (map key items) ≡ length items
length_keys key [] = refl
length_keys key (x ∷ items) = ap suc (length_keys key items)

key_at : {A : Type 0} (key : A → List ℕ) (items : List A) (k : ℕ) (x : A) (d : List ℕ) → k < length items → x ≡ get_or items k x → get_or (map key items) k d ≡ key x
key_at key [] k x d within is = absurd (omega (arith, within))
key_at key (y ∷ items) zero x d within is = ap key (sym is)
key_at key (y ∷ items) (suc k) x d within is = key_at key items k x d (omega (arith, within)) is

rise_suc : (keys : List (List ℕ)) → IsStrictlySortedBy (slice_cmp nat_cmp) keys → (k : ℕ) (d : List ℕ) → suc k < length keys → is_lt (slice_cmp nat_cmp (get_or keys k d) (get_or keys (suc k) d)) ≡ true
unfolding IsStrictlySortedBy
rise_suc [] order k d within = absurd (omega (arith, within))
rise_suc (x ∷ []) order k d within = absurd (omega (arith, within))
rise_suc (x ∷ y ∷ keys) order zero d within = ap is_lt order.0.0
rise_suc (x ∷ y ∷ keys) order (suc k) d within = rise_suc (y ∷ keys) order.1 k d (omega (arith, within))

pub all_rise : {A : Type 0} (key : A → List ℕ) (items : List A) (n : ℕ) → length items ≤ n → RiseUpTo n (map key items) → IsStrictlySortedBy (slice_cmp nat_cmp) (map key items)
all_rise key items n all rise = sorted_from_all_adjacent nat_list_cmp_total (map key items) [] (λ k within. is_less _ (rise k [] (omega (arith, within, all, length_keys key items))))

-- keys don't rise where one isn't behind the one before
pub out_of_order : {A : Type 0} (key : A → List ℕ) (items : List A) (n : ℕ) (before next : A) → before ≡ get_or items (n - 1) before → next ≡ get_or items n next → 0 < n → n < length items
    → is_lt (slice_cmp nat_cmp (key before) (key next)) ≡ false → IsStrictlySortedBy (slice_cmp nat_cmp) (map key items) → ⊥
out_of_order key items n before next is_before is_next some within out order =
    let at : suc (n - 1) ≡ n = omega (arith, some) in
    let below = rise_suc (map key items) order (n - 1) [] (omega (arith, some, within, length_keys key items)) in
    let first : get_or (map key items) (n - 1) [] ≡ key before = key_at key items (n - 1) before [] (omega (arith, some, within)) is_before in
    let second : get_or (map key items) (suc (n - 1)) [] ≡ key next = ap (λ m. get_or (map key items) m []) at ∙ key_at key items n next [] within is_next in
    let both : true ≡ false = sym below ∙ ap (λ a. is_lt (slice_cmp nat_cmp a (get_or (map key items) (suc (n - 1)) []))) first ∙ ap (λ b. is_lt (slice_cmp nat_cmp (key before) b)) second ∙ out in
    absurd (cc)

-- one key more rises where it is behind the one before
pub rise_more : {A : Type 0} (key : A → List ℕ) (items : List A) (n : ℕ) (before next : A) → before ≡ get_or items (n - 1) before → next ≡ get_or items n next → 0 < n → n < length items
    → is_lt (slice_cmp nat_cmp (key before) (key next)) ≡ true → RiseUpTo n (map key items) → RiseUpTo (n + 1) (map key items)
rise_more key items n before next is_before is_next some within below rise k d second = elim (cases_lt (k + 1) n) [ inl earlier ↦ rise k d earlier | inr here ↦ last here ]
  where
    last : n ≤ k + 1 → is_lt (slice_cmp nat_cmp (get_or (map key items) k d) (get_or (map key items) (k + 1) d)) ≡ true
    last here =
        let at : k ≡ n - 1 = omega (arith, here, second) in
        let next_at : k + 1 ≡ n = omega (arith, here, second) in
        let first : get_or (map key items) k d ≡ key before = ap (λ m. get_or (map key items) m d) at ∙ key_at key items (n - 1) before d (omega (arith, some, within)) is_before in
        let other : get_or (map key items) (k + 1) d ≡ key next = ap (λ m. get_or (map key items) m d) next_at ∙ key_at key items n next d within is_next in
        ap (λ a. is_lt (slice_cmp nat_cmp a (get_or (map key items) (k + 1) d))) first ∙ ap (λ b. is_lt (slice_cmp nat_cmp (key before) b)) other ∙ below
