-- What a loop over the items of a list has done, and what is left for it.
use Rattle.std.proofs.Common.{◌≡◌, ◌++◌, List, [], ◌∷◌, length, map, All, sym, ap, subst, ◌∙◌, append_assoc, append-nil, arith}
use Rattle.std.proofs.lemmas.List.{map-append}
use Rattle.std.proofs.lemmas.List.Elements.{All-head, All-tail}

-- the next item is behind those that are done
pub moved_on : {X : Type 0} (done left rest all : List X) (x : X) → left ≡ x ∷ rest → done ++ left ≡ all → (done ++ x ∷ []) ++ rest ≡ all
moved_on done left rest all x next split = append_assoc done (x ∷ []) rest ∙ ap (λ l. done ++ l) (sym next) ∙ split

-- what holds of all that are left holds of the next and of the others
pub all_left : {X : Type 0} (P : X → Type 0) (left rest : List X) (x : X) → left ≡ x ∷ rest → All P left → P x × All P rest
all_left P left rest x next holds =
    let all : All P (x ∷ rest) = subst (All P) next holds in
    (All-head P x rest all, All-tail P x rest all)

-- nothing is left of a list that has no length
pub nothing_left : {X : Type 0} (done left all : List X) → 0 ≡ length left → done ++ left ≡ all → done ≡ all
nothing_left done [] all none split = sym (append-nil done) ∙ split
nothing_left done (x ∷ rest) all none split = absurd (omega arith)

-- what one more is of one more
pub seen_of : {X Y : Type 0} (f : X → Y) (old new : List X) (done : List Y) (x : X) (y : Y) → new ≡ old ++ x ∷ [] → map f old ≡ done → f x ≡ y → map f new ≡ done ++ y ∷ []
seen_of f old new done x y added same is = ap (map f) added ∙ map-append f old (x ∷ []) ∙ ap (λ l. l ++ f x ∷ []) same ∙ ap (λ z. done ++ z ∷ []) is
