-- The sites on which the command starts.
use Rattle.std.proofs.Common.{◌≡◌, ℕ, zero, suc, ◌<◌, List, [], ◌∷◌, ◌++◌, length, map, Some, refl, ap, subst, ◌∙◌, lit<}
use Rattle.std.specs.List.{slice_get}
use Rattle.std.specs.Prelude.{All}
use Rattle.std.proofs.lemmas.List.Elements.{All-nil, All-push}
use Rattle.contexts.specs.Sites.{Rests, site_at, sites_of}
use Rattle.pass_course.specs.Course.{IsIdle}
use Rattle.site_core.specs.Lived.{Lived}
use Rattle.site_words.proofs.Items.{each_push}
use Rattle.site_words.specs.Trees.{Each}

-- one pass acts on the site, and nothing was done to it
abbrev pub IsNew : Lived → Type 0
IsNew site = IsIdle site.opening 0 site.history

pub all_rest : (seed : List ℕ) (count : ℕ) → All Rests (sites_of seed 1 count)
all_rest seed zero = All-nil Rests
all_rest seed (suc count) = All-push Rests (sites_of seed 1 count) (site_at seed 1 count) (all_rest seed count) (λ k within. refl)

each_new : (seed : List ℕ) (count : ℕ) → Each IsNew (sites_of seed 1 count)
each_new seed zero = tt
each_new seed (suc count) = each_push IsNew (sites_of seed 1 count) (site_at seed 1 count) (each_new seed count) (lit< tt, refl)

each_get : (P : Lived → Type 0) (sites : List Lived) (k : ℕ) (site : Lived) → Each P sites → slice_get sites k ≡ Some site → P site
each_get P [] k site all at = absurd (cc)
each_get P (s ∷ sites) zero site all at = let is : s ≡ site = cc in subst P is all.0
each_get P (s ∷ sites) (suc k) site all at = each_get P sites k site all.1 at

pub is_new : (seed : List ℕ) (count k : ℕ) (site : Lived) → slice_get (sites_of seed 1 count) k ≡ Some site → IsNew site
is_new seed count k site at = each_get IsNew (sites_of seed 1 count) k site (each_new seed count) at

-- an item of a list, among what is made of each
pub get_made : {X Y : Type 0} (f : X → Y) (xs : List X) (k : ℕ) (x : X) → slice_get xs k ≡ Some x → slice_get (map f xs) k ≡ Some (f x)
get_made f [] k x at = absurd (cc)
get_made f (z ∷ xs) zero x at = let is : z ≡ x = cc in ap (λ w. Some (f w)) is
get_made f (z ∷ xs) (suc k) x at = get_made f xs k x at

-- what is made of each by two steps
pub made_twice : {X Y Z : Type 0} (f : X → Y) (g : Y → Z) (xs : List X) → map (λ x. g (f x)) xs ≡ map g (map f xs)
made_twice f g [] = refl
made_twice f g (x ∷ xs) = ap (λ l. g (f x) ∷ l) (made_twice f g xs)

push_len : (sites : List Lived) (site : Lived) → length (sites ++ site ∷ []) ≡ suc (length sites)
push_len [] site = refl
push_len (s ∷ sites) site = ap suc (push_len sites site)

pub count_of : (seed : List ℕ) (count : ℕ) → length (sites_of seed 1 count) ≡ count
count_of seed zero = refl
count_of seed (suc count) = push_len (sites_of seed 1 count) (site_at seed 1 count) ∙ ap suc (count_of seed count)
