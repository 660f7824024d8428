-- Sites that agree on the names of a first reading have the same first reading.
use Rattle.std.proofs.Common.{◌≡◌, ℕ, zero, suc, Bool, true, false, cond, List, [], ◌∷◌, ◌++◌, refl, ap, ◌∙◌, length, Option, Some, None}
use Rattle.std.specs.Prelude.{codes}
use Rattle.page_pieces.specs.Settings.{contains_text}
use Rattle.page_directives.specs.Directive.{Directive, is_named}
use Rattle.unit_source.specs.declared.volume.Volume.{Volume}
use Rattle.unit_source.specs.Files.{Files}
use Rattle.unit_source.specs.First.{EnterFirst, First, none_read, with_name, first_text, first_file, first_before, first_all, own_directives, first_within, most_deep, included_path, brought_first, firsts_by, brought_names}
use Rattle.unit_source.specs.Laws.{Agree}
use Rattle.unit_source.specs.Volume.{and_file, has_room, spent}

pub agree_left : (f g : Files) (a b : List (List ℕ)) → Agree f g (a ++ b) → Agree f g a
agree_left f g [] b h = tt
agree_left f g (n ∷ a) b h = (h.0, agree_left f g a b h.1)

pub agree_right : (f g : Files) (a b : List (List ℕ)) → Agree f g (a ++ b) → Agree f g b
agree_right f g [] b h = h
agree_right f g (n ∷ a) b h = agree_right f g a b h.1

-- so are the readings that enter a file
abbrev pub SameFirst : (f g : Files) → (e d : EnterFirst) → Type 0
SameFirst f g e d = (volume : Volume) (target text : List ℕ) → Agree f g (e volume target text).names → e volume target text ≡ d volume target text

if_same : (f g : Files) (b : Bool) (x y z : First) → (Agree f g x.names → x ≡ y) → Agree f g (cond b x z).names → cond b x z ≡ cond b y z
if_same f g true x y z h a = h a
if_same f g false x y z h a = refl

unless_same : (f g : Files) (b : Bool) (x y z : First) → (Agree f g x.names → x ≡ y) → Agree f g (cond b z x).names → cond b z x ≡ cond b z y
unless_same f g true x y z h a = refl
unless_same f g false x y z h a = h a

text_same : (f g : Files) (e d : EnterFirst) → SameFirst f g e d → (volume : Volume) (target : List ℕ) (o : Option (List ℕ))
    → Agree f g (first_text e volume target o).names → first_text e volume target o ≡ first_text d volume target o
text_same f g e d h volume target None a = refl
text_same f g e d h volume target (Some text) a =
    if_same f g (has_room (length text) volume) (e (and_file (length text) volume) target text) (d (and_file (length text) volume) target text) (none_read (spent volume))
    (h (and_file (length text) volume) target text) a

pub file_same : (f g : Files) (e d : EnterFirst) → SameFirst f g e d → (chain : List (List ℕ)) (volume : Volume) (o : Option (List ℕ))
    → Agree f g (first_file e f chain volume o).names → first_file e f chain volume o ≡ first_file d g chain volume o
file_same f g e d h chain volume None a = refl
file_same f g e d h chain volume (Some target) a =
    ap (with_name target) (unless_same f g (contains_text target chain) (first_text e volume target (f target)) (first_text d volume target (g target)) (none_read volume)
    (λ inner. text_same f g e d h volume target (f target) inner ∙ ap (first_text d volume target) a.0) a.1)

all_same : (f g : Files) (e d : EnterFirst) → SameFirst f g e d → (chain : List (List ℕ)) (volume : Volume) (ds : List Directive)
    → Agree f g (first_all e f chain volume ds).names → first_all e f chain volume ds ≡ first_all d g chain volume ds
all_same f g e d h chain volume [] a = refl
all_same f g e d h chain volume (x ∷ ds) a =
    let here : First = first_file e f chain volume (included_path x) in
    let later : First = first_all e f chain here.volume ds in
    ap (first_before x here) (all_same f g e d h chain here.volume ds (agree_right f g here.names later.names a))
    ∙ ap (λ y. first_before x y (first_all d g chain y.volume ds)) (file_same f g e d h chain volume (included_path x) (agree_left f g here.names later.names a))

pub within_same : (f g : Files) (deep : ℕ) (chain : List (List ℕ)) → SameFirst f g (first_within deep f chain) (first_within deep g chain)
unfolding first_within
within_same f g zero chain volume path text a = refl
within_same f g (suc deep) chain volume path text a =
    all_same f g (first_within deep f (path ∷ chain)) (first_within deep g (path ∷ chain)) (within_same f g deep (path ∷ chain)) (path ∷ chain) volume (own_directives path text) a

brought_same : (f g : Files) (chain : List (List ℕ)) (volume : Volume) (d : Directive) → Agree f g (brought_first f chain volume d).names → brought_first f chain volume d ≡ brought_first g chain volume d
brought_same f g chain volume d a = file_same f g (first_within most_deep f chain) (first_within most_deep g chain) (within_same f g most_deep chain) chain volume (included_path d) a

-- so are the readings of the directives behind one
step_same : (f g : Files) (b : Bool) (n : ℕ) (x y : First) (volume : Volume) (r s : Volume → List (ℕ × First)) → (Agree f g x.names → x ≡ y) → ((v : Volume) → Agree f g (brought_names (r v)) → r v ≡ s v)
    → Agree f g (brought_names (cond b ((n, x) ∷ r x.volume) (r volume))) → cond b ((n, x) ∷ r x.volume) (r volume) ≡ cond b ((n, y) ∷ s y.volume) (s volume)
step_same f g true n x y volume r s h k a =
    ap (λ z. (n, x) ∷ z) (k x.volume (agree_right f g x.names (brought_names (r x.volume)) a)) ∙ ap (λ (z : First). (n, z) ∷ s z.volume) (h (agree_left f g x.names (brought_names (r x.volume)) a))
step_same f g false n x y volume r s h k a = k volume a

pub firsts_same : (f g : Files) (chain : List (List ℕ)) (ds : List Directive) (volume : Volume) → Agree f g (brought_names (firsts_by f chain volume ds)) → firsts_by f chain volume ds ≡ firsts_by g chain volume ds
firsts_same f g chain [] volume a = refl
firsts_same f g chain (d ∷ ds) volume a =
    step_same f g (is_named (codes "include") d) d.place.byte (brought_first f chain volume d) (brought_first g chain volume d) volume
    (λ v. firsts_by f chain v ds) (λ v. firsts_by g chain v ds) (brought_same f g chain volume d) (firsts_same f g chain ds) a
