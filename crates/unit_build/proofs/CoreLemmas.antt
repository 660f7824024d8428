-- The prefixes of the core library.
use Rattle.std.proofs.Common.{◌≡◌, ℕ, Bool, true, false, cond, List, [], ◌∷◌, ◌++◌, refl, ap, sym, subst, ◌∙◌, Option, Some, None, arith}
use Rattle.std.proofs.Math.Path.{fun_ext}
use Rattle.std.proofs.lemmas.Bool.{false≢true}
use Rattle.std.proofs.lemmas.Slice.Eq.{bytes_eq-Decides}
use Rattle.std.specs.Prelude.{◌||◌, ◌&&◌}
use Rattle.std.specs.Str.{bytes_eq}
use Rattle.page_pieces.specs.Settings.{contains_text}
use Rattle.page_directives.specs.Directive.{Directive}
use Rattle.page_directives.specs.Taglibs.{prefix_in, is_prefix, or_target, target_in, target_of}
use Rattle.unit_words.specs.Kinds.{is_core_prefix, is_core_target}
use Rattle.unit_build.specs.ReadCore.{core_in, core_of, is_among}

contains_joined : (p : List ℕ) (xs ys : List (List ℕ)) → contains_text p (xs ++ ys) ≡ (contains_text p xs || contains_text p ys)
contains_joined p [] ys = refl
contains_joined p (x ∷ xs) ys = ap (λ b. bytes_eq x p || b) (contains_joined p xs ys) ∙ grouped (bytes_eq x p) (contains_text p xs) (contains_text p ys)
  where
    grouped : (a b c : Bool) → (a || (b || c)) ≡ ((a || b) || c)
    grouped true b c = refl
    grouped false b c = refl

one_core : (all : List Directive) (p : List ℕ) (o : Option (List ℕ)) → contains_text p (core_in all o) ≡ (is_prefix p o && is_core_prefix all p)
one_core all p None = refl
one_core all p (Some q) = by_same (bytes_eq p q) refl
  where
    self : (c : Bool) → contains_text q (cond c (q ∷ []) []) ≡ (bytes_eq q q && c)
    self true = of (bytes_eq q q)
      where
        of : (b : Bool) → (b || false) ≡ (b && true)
        of true = refl
        of false = refl
    self false = of (bytes_eq q q)
      where
        of : (b : Bool) → false ≡ (b && false)
        of true = refl
        of false = refl

    other : (c : Bool) → bytes_eq q p ≡ false → contains_text p (cond c (q ∷ []) []) ≡ false
    other true e = ap (λ b. b || false) e
    other false e = refl

    by_same : (b : Bool) → bytes_eq p q ≡ b → contains_text p (cond (is_core_prefix all q) (q ∷ []) []) ≡ (b && is_core_prefix all p)
    by_same true e =
        let same : q ≡ p = grind (arith, bytes_eq-Decides p q) in
        subst (λ x. contains_text x (cond (is_core_prefix all q) (q ∷ []) []) ≡ (bytes_eq x q && is_core_prefix all x)) same (self (is_core_prefix all q)) ∙ ap (λ b. b && is_core_prefix all p) e
    by_same false e = other (is_core_prefix all q) (grind (arith, bytes_eq-Decides p q, bytes_eq-Decides q p))

-- one of these directives registers the prefix
abbrev registers : List ℕ → List Directive → Bool
registers p [] = false
registers p (d ∷ ds) = is_prefix p (prefix_in d) || registers p ds

all_core : (all : List Directive) (p : List ℕ) (ds : List Directive) → contains_text p (core_of all ds) ≡ (registers p ds && is_core_prefix all p)
all_core all p [] = refl
all_core all p (d ∷ ds) =
    contains_joined p (core_in all (prefix_in d)) (core_of all ds)
    ∙ ap (λ b. b || contains_text p (core_of all ds)) (one_core all p (prefix_in d))
    ∙ ap (λ b. (is_prefix p (prefix_in d) && is_core_prefix all p) || b) (all_core all p ds)
    ∙ apart (is_prefix p (prefix_in d)) (registers p ds) (is_core_prefix all p)
  where
    apart : (a b c : Bool) → ((a && c) || (b && c)) ≡ ((a || b) && c)
    apart true true true = refl
    apart true true false = refl
    apart true false true = refl
    apart true false false = refl
    apart false b c = refl

-- a prefix that no directive registers stands for nothing
no_target : (p : List ℕ) (ds : List Directive) → registers p ds ≡ false → target_of p ds ≡ None
no_target p [] e = refl
no_target p (d ∷ ds) e = of (is_prefix p (prefix_in d)) (no_target p ds) e
  where
    of : (b : Bool) → (registers p ds ≡ false → target_of p ds ≡ None) → (b || registers p ds) ≡ false
        → cond b (or_target (target_in d.attributes) (target_of p ds)) (target_of p ds) ≡ None
    of false later e = later e
    of true later e = absurd (false≢true (sym e))

core_at : (all : List Directive) (p : List ℕ) → contains_text p (core_of all all) ≡ is_core_prefix all p
core_at all p = all_core all p all ∙ of (registers p all) refl
  where
    of : (b : Bool) → registers p all ≡ b → (b && is_core_prefix all p) ≡ is_core_prefix all p
    of true e = refl
    of false e = sym (ap is_core_target (no_target p all e))

-- the prefixes that are gathered are those of the core library
pub core_is : (all : List Directive) → is_among (core_of all all) ≡ is_core_prefix all
unfolding is_among
core_is all = fun_ext (core_at all)

pub library_is : (prefixes : List (List ℕ)) (all : List Directive) → is_among prefixes ≡ is_core_prefix all → (λ prefix. contains_text prefix prefixes) ≡ is_core_prefix all
unfolding is_among
library_is prefixes all is = is
