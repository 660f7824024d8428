-- Sets of faults.
use Rattle.std.proofs.Common.{◌≡◌, ℕ, zero, suc, ◌<◌, ◌*◌, ◌^◌, ◌%◌, max, Bool, true, false, cond, List, [], ◌∷◌, ◌++◌, refl, sym, ap, ◌∙◌, arith, eq-eqb}
use borrow.Author.Tests.{eqb-true}
use Rattle.std.specs.Prelude.{filter, ◌==◌, ◌&&◌, ◌||◌}
use Rattle.std.specs.List.{list_any, slice_get, find}
use Rattle.std.specs.Prelude.{Option, Some}
use Rattle.std.specs.Int.{bit_at}
use Rattle.std.specs.Int.Bits.{bit_or}
use Rattle.std.proofs.lemmas.Nat.Bits.{bit_at_or, bit_at-lt}
use Rattle.std.proofs.lemmas.List.Folds.{list_any-append}
use Rattle.std.proofs.lemmas.Map.Views.{any-filter_same}
use Rattle.pg_text.specs.declared.translation_fault.TranslationFault.{TranslationFault}
use Rattle.pg_text.specs.declared.translation_fault.TranslationFault.TheVariants as fault
use Rattle.pg_text.specs.Faults.{number_of}
use Rattle.page_directives.specs.Faults.{has_fault, all_faults, in_order, at_bits, is_good}

-- two tests that agree keep the same
filter_agrees : {X : Type 0} (p q : X → Bool) → ((x : X) → p x ≡ q x) → (xs : List X) → filter p xs ≡ filter q xs
filter_agrees p q same [] = refl
filter_agrees p q same (x ∷ xs) = let e = same x in let ih = filter_agrees p q same xs in cc

-- each fault is among all
all_there : (f : TranslationFault) → list_any (λ other. number_of other == number_of f) all_faults ≡ true
all_there fault.NotUtf8 = refl
all_there fault.Unclosed = refl
all_there fault.WrongEnd = refl
all_there fault.Scripting = refl
all_there fault.XmlSyntax = refl
all_there fault.BadDirective = refl
all_there fault.Clash = refl
all_there fault.NoFile = refl
all_there fault.IncludeCycle = refl
all_there fault.BadTaglib = refl
all_there fault.NoTag = refl
all_there fault.BadAttribute = refl
all_there fault.BadNesting = refl
all_there fault.BadBody = refl
all_there fault.ElSyntax = refl
all_there fault.ElNotHere = refl
all_there fault.NoFunction = refl
all_there fault.Decimal = refl
all_there fault.LeftOut = refl
all_there fault.TooLarge = refl
all_there fault.UnbufferedNoFlush = refl

and_true : (a b : Bool) → b ≡ true → (a && b) ≡ a
and_true true b e = e
and_true false b e = refl

-- what a test by number keeps of all faults has a fault exactly where the test takes it
has_kept : (p : ℕ → Bool) (f : TranslationFault) → has_fault (filter (λ g. p (number_of g)) all_faults) f ≡ p (number_of f)
has_kept p f =
    any-filter_same (λ g. number_of g == number_of f) (λ g. p (number_of g)) (p (number_of f)) (λ g e. ap p (eqb-true (number_of g) (number_of f) e)) all_faults
    ∙ and_true (p (number_of f)) (list_any (λ g. number_of g == number_of f) all_faults) (all_there f)

pub has-in_order : (found : List TranslationFault) (f : TranslationFault) → has_fault (in_order found) f ≡ has_fault found f
unfolding in_order
has-in_order found f = has_kept (λ n. list_any (λ g. number_of g == n) found) f

pub has-at_bits : (bits : ℕ) (f : TranslationFault) → has_fault (at_bits bits) f ≡ (bit_at bits (number_of f) == 1)
unfolding at_bits
has-at_bits bits f = has_kept (λ n. bit_at bits n == 1) f

has-append : (xs ys : List TranslationFault) (f : TranslationFault) → has_fault (xs ++ ys) f ≡ (has_fault xs f || has_fault ys f)
has-append xs ys f = list_any-append (λ g. number_of g == number_of f) xs ys

or_same : (a b c d : Bool) → a ≡ c → b ≡ d → (a || b) ≡ (c || d)
or_same a b c d e g = cc

-- the faults of two sets are those of what they were made of
pub in_order-joined : (xs ys : List TranslationFault) → in_order (in_order xs ++ in_order ys) ≡ in_order (xs ++ ys)
unfolding in_order
in_order-joined xs ys = filter_agrees _ _ (λ f. has-append (in_order xs) (in_order ys) f ∙ (or_same _ _ _ _ (has-in_order xs f) (has-in_order ys f) ∙ sym (has-append xs ys f))) all_faults

either_bit : (x y : ℕ) → x < 2 → y < 2 → (max x y == 1) ≡ ((x == 1) || (y == 1))
either_bit zero zero p q = refl
either_bit zero (suc zero) p q = refl
either_bit zero (suc (suc y)) p q = absurd (omega arith)
either_bit (suc zero) zero p q = refl
either_bit (suc zero) (suc zero) p q = refl
either_bit (suc zero) (suc (suc y)) p q = absurd (omega arith)
either_bit (suc (suc x)) y p q = absurd (omega arith)

-- the bits of two sets
pub at_bits-or : (a b : ℕ) → at_bits (bit_or a b) ≡ in_order (at_bits a ++ at_bits b)
unfolding in_order at_bits
at_bits-or a b =
    filter_agrees _ _ (λ f. ap (λ n. n == 1) (bit_at_or a b (number_of f))
    ∙ (either_bit (bit_at a (number_of f)) (bit_at b (number_of f)) (bit_at-lt a (number_of f)) (bit_at-lt b (number_of f))
    ∙ (or_same _ _ _ _ (sym (has-at_bits a f)) (sym (has-at_bits b f)) ∙ sym (has-append (at_bits a) (at_bits b) f)))) all_faults

-- one bit
pub at_one : (f : TranslationFault) → at_bits (1 * 2 ^ number_of f % 4294967296) ≡ in_order (f ∷ [])
unfolding in_order at_bits
at_one fault.NotUtf8 = refl
at_one fault.Unclosed = refl
at_one fault.WrongEnd = refl
at_one fault.Scripting = refl
at_one fault.XmlSyntax = refl
at_one fault.BadDirective = refl
at_one fault.Clash = refl
at_one fault.NoFile = refl
at_one fault.IncludeCycle = refl
at_one fault.BadTaglib = refl
at_one fault.NoTag = refl
at_one fault.BadAttribute = refl
at_one fault.BadNesting = refl
at_one fault.BadBody = refl
at_one fault.ElSyntax = refl
at_one fault.ElNotHere = refl
at_one fault.NoFunction = refl
at_one fault.Decimal = refl
at_one fault.LeftOut = refl
at_one fault.TooLarge = refl
at_one fault.UnbufferedNoFlush = refl

or_left : (a b : Bool) → a ≡ true → (a || b) ≡ true
or_left true b e = refl
or_left false b e = cc

or_more : (a b c d : Bool) → (a ≡ true → c ≡ true) → (b ≡ true → d ≡ true) → (a || b) ≡ true → (c || d) ≡ true
or_more true b c d f g e = or_left c d (f refl)
or_more false b true d f g e = refl
or_more false b false d f g e = g e

any_more : (p q : TranslationFault → Bool) → ((f : TranslationFault) → q f ≡ true → p f ≡ true) → (fs : List TranslationFault) → list_any q fs ≡ true → list_any p fs ≡ true
any_more p q more [] e = e
any_more p q more (f ∷ fs) e = or_more (q f) (list_any q fs) (p f) (list_any p fs) (more f) (any_more p q more fs) e

kept_first : (b : Bool) (f : TranslationFault) (more kept : List TranslationFault) (others : Bool) → (others ≡ true → is_good kept ≡ false) → (b || others) ≡ true → is_good (cond b (f ∷ more) kept) ≡ false
kept_first true f more kept others h e = refl
kept_first false f more kept others h e = h e

kept_some : (p : TranslationFault → Bool) (fs : List TranslationFault) → list_any p fs ≡ true → is_good (filter p fs) ≡ false
kept_some p [] e = cc
kept_some p (f ∷ fs) e = kept_first (p f) f (filter p fs) (filter p fs) (list_any p fs) (kept_some p fs) e

has_own : (f g : TranslationFault) (found : List TranslationFault) → (number_of g == number_of f) ≡ true → has_fault (f ∷ found) g ≡ true
has_own f g found e = or_left (number_of f == number_of g) (has_fault found g) (eq-eqb (number_of f) (number_of g) (sym (eqb-true (number_of g) (number_of f) e)))

-- a set is empty where there is no fault
pub is_good-in_order : (found : List TranslationFault) → is_good (in_order found) ≡ is_good found
unfolding in_order
is_good-in_order [] = refl
is_good-in_order (f ∷ found) =
    kept_some (has_fault (f ∷ found)) all_faults (any_more (has_fault (f ∷ found)) (λ g. number_of g == number_of f) (λ g e. has_own f g found e) all_faults (all_there f))

-- what one set and another were made of, together
pub joined : (one other both xs ys : List TranslationFault) → one ≡ in_order xs → other ≡ in_order ys → both ≡ in_order (one ++ other) → both ≡ in_order (xs ++ ys)
joined one other both xs ys e g h = h ∙ (ap (λ fs. in_order (fs ++ other)) e ∙ (ap (λ fs. in_order (in_order xs ++ fs)) g ∙ in_order-joined xs ys))

-- the first that a test keeps
first_kept : (p : TranslationFault → Bool) (fs : List TranslationFault) → slice_get (filter p fs) 0 ≡ find p fs
first_kept p [] = refl
first_kept p (f ∷ fs) = by_first (p f) f (filter p fs) (find p fs) (first_kept p fs)
  where
    by_first : (b : Bool) (f : TranslationFault) (kept : List TranslationFault) (found : Option TranslationFault) → slice_get kept 0 ≡ found → slice_get (cond b (f ∷ kept) kept) 0 ≡ cond b (Some f) found
    by_first true f kept found e = refl
    by_first false f kept found e = e

-- the least fault of a set
pub least_at : (bits : ℕ) → slice_get (at_bits bits) 0 ≡ find (λ f. bit_at bits (number_of f) == 1) all_faults
unfolding at_bits
least_at bits = first_kept (λ f. bit_at bits (number_of f) == 1) all_faults
