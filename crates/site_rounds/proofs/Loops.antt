-- What a loop over the items of a list has done, and what is left for it.
use Rattle.std.proofs.Common.{◌≡◌, ◌+◌, ◌<◌, ◌++◌, List, [], ◌∷◌, length, map, All, sym, ap, subst, ◌∙◌, append_assoc, append-nil, length-append, arith, rules}
use Rattle.std.proofs.lemmas.List.{length-map, map-append}
use Rattle.std.proofs.lemmas.List.Elements.{All-append, All-head, All-tail}

-- the next item is behind those that are done
pub moved_on : {X : Type 0} (done left rest all : List X) (x : X) → left ≡ x ∷ rest → done ++ left ≡ all → (done ++ x ∷ []) ++ rest ≡ all
moved_on done left rest all x next split = append_assoc done (x ∷ []) rest ∙ ap (λ l. done ++ l) (sym next) ∙ split

-- what holds of all that are left holds of the next and of the others
pub all_left : {X : Type 0} (P : X → Type 0) (left rest : List X) (x : X) → left ≡ x ∷ rest → All P left → P x × All P rest
all_left P left rest x next holds =
    let all : All P (x ∷ rest) = subst (All P) next holds in
    (All-head P x rest all, All-tail P x rest all)

-- what holds of all that were made holds of them and one more
pub all_made : {X : Type 0} (P : X → Type 0) (old new : List X) (x : X) → new ≡ old ++ x ∷ [] → All P old → P x → All P new
all_made P old new x added holds more = subst (All P) (sym added) (All-append P old (x ∷ []) holds (λ k d low. search (rules, more)))

-- what was made of the items that are done stands behind what was there
pub made_of : {X Y : Type 0} (f : X → Y) (done : List X) (before old new : List Y) (x : X) (y : Y) → new ≡ old ++ y ∷ [] → old ≡ before ++ map f done → y ≡ f x → new ≡ before ++ map f (done ++ x ∷ [])
made_of f done before old new x y added same is =
    added ∙ ap (λ l. l ++ y ∷ []) same ∙ append_assoc before (map f done) (y ∷ []) ∙ ap (λ l. before ++ l) (ap (λ z. map f done ++ z ∷ []) is ∙ sym (map-append f done (x ∷ [])))

-- there are as many as those that they were made of, where one thing of each is as it was
pub as_many : {X Y Z : Type 0} (f : X → Y) (g : X → Z) (after before : List X) (from : List Z) → map f after ≡ map f before → map g before ≡ from → length after ≡ length from
as_many f g after before from same made = sym (length-map after f) ∙ ap length same ∙ length-map before f ∙ sym (length-map before g) ∙ ap length made

-- a list is longer by what was put behind it
pub longer_by : {X Y : Type 0} (f : X → Y) (old new : List Y) (more : List X) → new ≡ old ++ map f more → length new ≡ length old + length more
longer_by f old new more added = ap length added ∙ length-append old (map f more) ∙ ap (λ n. length old + n) (length-map more f)

-- fewer were made than there are items, while one is left
pub fewer : {X Y : Type 0} (f : Y → X) (made : List Y) (done left rest all : List X) (x : X) → map f made ≡ done → left ≡ x ∷ rest → done ++ left ≡ all → length made < length all
fewer f made done left rest all x same next split =
    let as_many : length made ≡ length done = sym (length-map made f) ∙ ap length same in
    let some : length left ≡ length (x ∷ rest) = ap length next in
    let whole : length done + length left ≡ length all = sym (length-append done left) ∙ ap length split in
    omega (arith, as_many, some, whole)

-- the same where they are known by what they were made of, behind what was there
pub fewer_made : {X Y : Type 0} (f : X → Y) (done left rest all : List X) (x : X) (before made : List Y) → made ≡ before ++ map f done → left ≡ x ∷ rest → done ++ left ≡ all → length made < length before + length all
fewer_made f done left rest all x before made same next split =
    let as_many : length made ≡ length before + length done = longer_by f before made done same in
    let some : length left ≡ length (x ∷ rest) = ap length next in
    let whole : length done + length left ≡ length all = sym (length-append done left) ∙ ap length split in
    omega (arith, as_many, some, whole)

-- nothing is left of a list that has no length
pub nothing_left : {X : Type 0} (done left all : List X) → 0 ≡ length left → done ++ left ≡ all → done ≡ all
nothing_left done [] all none split = sym (append-nil done) ∙ split
nothing_left done (x ∷ rest) all none split = absurd (omega arith)

-- what one more is of one more
pub seen_of : {X Y : Type 0} (f : X → Y) (old new : List X) (done : List Y) (x : X) (y : Y) → new ≡ old ++ x ∷ [] → map f old ≡ done → f x ≡ y → map f new ≡ done ++ y ∷ []
seen_of f old new done x y added same is = ap (map f) added ∙ map-append f old (x ∷ []) ∙ ap (λ l. l ++ f x ∷ []) same ∙ ap (λ z. done ++ z ∷ []) is
