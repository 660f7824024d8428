-- The sites of contexts that start: each rests, and has as many passes as were said.
use Rattle.std.proofs.Common.{◌≡◌, ℕ, zero, suc, ◌≤◌, List, [], ◌∷◌, All, length, map, ap, arith, refl, sym, subst, ◌∙◌}
use Rattle.std.proofs.lemmas.List.{length-append, length-map}
use Rattle.std.proofs.lemmas.List.Elements.{All-append, All-cons, All-map, All-nil, All-weaker}
use Rattle.contexts.specs.Sites.{Rests, site_at, sites_of}
use Rattle.context_workers.proofs.Lists.{all_of_map}
use Rattle.site_core.specs.Lived.{Lived}

one : {X : Type 0} (P : X → Type 0) (x : X) → P x → All P (x ∷ [])
one P x holds = All-cons P x [] holds (All-nil P)

pub all_rest : (seed : List ℕ) (passes count : ℕ) → All Rests (sites_of seed passes count)
all_rest seed passes zero = All-nil Rests
all_rest seed passes (suc count) =
    All-append Rests (sites_of seed passes count) (site_at seed passes count ∷ []) (all_rest seed passes count) (one Rests (site_at seed passes count) (λ k within. refl))

all_passes : (seed : List ℕ) (passes count : ℕ) → All (λ (site : Lived). site.opening.passes ≡ passes) (sites_of seed passes count)
all_passes seed passes zero = All-nil (λ (site : Lived). site.opening.passes ≡ passes)
all_passes seed passes (suc count) =
    All-append (λ (site : Lived). site.opening.passes ≡ passes) (sites_of seed passes count) (site_at seed passes count ∷ []) (all_passes seed passes count)
    (one (λ (site : Lived). site.opening.passes ≡ passes) (site_at seed passes count) refl)

-- there are so many
pub length_sites : (seed : List ℕ) (passes count : ℕ) → length (sites_of seed passes count) ≡ count
length_sites seed passes zero = refl
length_sites seed passes (suc count) =
    let sum = length-append (sites_of seed passes count) (site_at seed passes count ∷ []) in
    let before = length_sites seed passes count in
    omega arith

-- as many of each as the opening of its site has
pub have_passes : {X : Type 0} (seed : List ℕ) (passes count : ℕ) (lists : List (List X)) → map length lists ≡ map (λ (site : Lived). site.opening.passes) (sites_of seed passes count) → All (λ own. length own ≡ passes) lists
have_passes seed passes count lists same =
    all_of_map (λ number. number ≡ passes) length lists
    (subst (All (λ (number : ℕ). number ≡ passes)) (sym same)
    (All-map (λ (number : ℕ). number ≡ passes) (λ (site : Lived). site.opening.passes) (sites_of seed passes count) (all_passes seed passes count)))

-- at least so many, where that are no more
pub have_enough : {X : Type 0} (least passes : ℕ) (lists : List (List X)) → least ≤ passes → All (λ own. length own ≡ passes) lists → All (λ own. least ≤ length own) lists
have_enough least passes lists few all = All-weaker (λ own. length own ≡ passes) (λ own. least ≤ length own) (λ own is. omega arith) lists all

-- a list of ports to sites is as long as their names, where there are as many of both
pub as_long : {P S : Type 0} (site : P → S) (ports : List P) (sites : List S) (count : ℕ) → map site ports ≡ sites → length sites ≡ count → length ports ≡ count
as_long site ports sites count same long = sym (length-map ports site) ∙ ap length same ∙ long
