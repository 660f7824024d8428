-- What holds of each item of a list.
use Rattle.std.proofs.Common.{◌≡◌, List, [], ◌∷◌, ◌++◌, All, map, ap, refl, sym, ◌∙◌}
use Rattle.std.proofs.lemmas.List.{map-append}
use Rattle.std.proofs.lemmas.List.Elements.{All-cons, All-head, All-nil, All-tail}

-- so of the items behind which one stands
pub front_all : {X : Type 0} (P : X → Type 0) (xs : List X) (x : X) → All P (xs ++ x ∷ []) → All P xs
front_all P [] x all = All-nil P
front_all P (y ∷ xs) x all = All-cons P y xs (All-head P y (xs ++ x ∷ []) all) (front_all P xs x (All-tail P y (xs ++ x ∷ []) all))

-- and of that one
pub last_of_all : {X : Type 0} (P : X → Type 0) (xs : List X) (x : X) → All P (xs ++ x ∷ []) → P x
last_of_all P [] x all = All-head P x [] all
last_of_all P (y ∷ xs) x all = last_of_all P xs x (All-tail P y (xs ++ x ∷ []) all)

-- so of each from which the items were made
pub all_of_map : {X Y : Type 0} (P : Y → Type 0) (f : X → Y) (xs : List X) → All P (map f xs) → All (λ x. P (f x)) xs
all_of_map P f [] all = All-nil (λ x. P (f x))
all_of_map P f (x ∷ xs) all = All-cons (λ x. P (f x)) x xs (All-head P (f x) (map f xs) all) (all_of_map P f xs (All-tail P (f x) (map f xs) all))

-- what is made of what was made
pub map_twice : {X Y Z : Type 0} (f : X → Y) (g : Y → Z) (xs : List X) → map g (map f xs) ≡ map (λ x. g (f x)) xs
map_twice f g [] = refl
map_twice f g (x ∷ xs) = ap (λ zs. g (f x) ∷ zs) (map_twice f g xs)

-- what is told of one more list is told of one more item
pub one_more : {W X Y Z : Type 0} (f : X → Y) (g : Y → Z) (h : W → Z) (old new : List X) (x : X) (done : List W) (w : W) → new ≡ old ++ x ∷ [] → map g (map f old) ≡ map h done → g (f x) ≡ h w → map g (map f new) ≡ map h (done ++ w ∷ [])
one_more {X = X} f g h old new x done w added same is =
    map_twice f g new ∙ ap (map (λ (z : X). g (f z))) added ∙ map-append (λ (z : X). g (f z)) old (x ∷ []) ∙ ap (λ zs. zs ++ g (f x) ∷ []) (sym (map_twice f g old) ∙ same) ∙ ap (λ z. map h done ++ z ∷ []) is ∙ sym (map-append h done (w ∷ []))
