-- Sites that agree on the names that reading meets are read as the same.
use Rattle.std.proofs.Common.{◌≡◌, ℕ, zero, suc, Bool, true, false, cond, List, [], ◌∷◌, ◌++◌, refl, ap, subst, ◌∙◌, Option, Some, None, length, codes}
use Rattle.std.specs.Option.{is_some}
use Rattle.page_pieces.specs.declared.piece.Tag.{Tag}
use Rattle.page_pieces.specs.Settings.{value_of}
use Rattle.page_reader.specs.Trees.{Tree, Opened}
use Rattle.page_directives.specs.Directive.{row_of}
use Rattle.page_directives.specs.Meet.{nothing_before}
use Rattle.unit_nodes.specs.declared.jsp_name.JspName.TheVariants as jsp
use Rattle.unit_words.specs.Beans.{Step, bean_path, bean_text, bean_at, bean_met}
use Rattle.unit_words.specs.Calls.{Called, called, first_call, call_counted, call_text, call_met}
use Rattle.unit_words.specs.Directives.{include_met, goes_in}
use Rattle.unit_words.specs.Elements.{Here, outermost, within}
use Rattle.unit_source.specs.Files.{Files}
use Rattle.unit_source.specs.InPlace.{InPlace, done, leaf, element, broken, included, flat}
use Rattle.unit_words.specs.Kinds.{Kind, standard, call, kind_of}
use Rattle.unit_source.specs.Root.{Root}
use Rattle.unit_words.specs.declared.counts.Counted.{Counted}
use Rattle.unit_words.specs.declared.counts.Counted.TheVariants.{Within, Passes, Over}
use Rattle.unit_words.specs.Counts.{counted}
use Rattle.unit_words.specs.State.{Event, faulty, needs, State, Reading, met, followed, ◌>>◌, needed, behind_count, tag_in, with_before}
use Rattle.unit_words.specs.Unit.{names_met}
use Rattle.unit_words.specs.Walk.{leaf_met, nested, file_met, start_met, tag_met, behind, behind_all, met_if, walk, back_to, met_within}
use Rattle.unit_source.specs.Laws.{Agree, HasSameRoot}
use Rattle.unit_words.proofs.AgreeNames.{agree_left, agree_right}

pub names_both : (a b : List Event) → names_met (a ++ b) ≡ names_met a ++ names_met b
names_both [] b = refl
names_both (faulty fault ∷ a) b = names_both a b
names_both (needs name ∷ a) b = ap (λ x. name ∷ x) (names_both a b)

pub names_needed : (names : List (List ℕ)) → names_met (needed names) ≡ names
names_needed [] = refl
names_needed (name ∷ names) = ap (λ x. name ∷ x) (names_needed names)

pub met_left : (f g : Files) (a b : List Event) → Agree f g (names_met (a ++ b)) → Agree f g (names_met a)
met_left f g a b h = agree_left f g (names_met a) (names_met b) (subst (Agree f g) (names_both a b) h)

pub met_right : (f g : Files) (a b : List Event) → Agree f g (names_met (a ++ b)) → Agree f g (names_met b)
met_right f g a b h = agree_right f g (names_met a) (names_met b) (subst (Agree f g) (names_both a b) h)

-- the call of a tag file

counted_same : HasSameRoot → (f g : Files) (path text : List ℕ) (c : Counted) (s : State) → Agree f g (call_counted f path text c s).names → call_counted f path text c s ≡ call_counted g path text c s
counted_same roots f g path text Within s a = ap (λ r. first_call path r (behind_count (length text) s)) (roots f g true path text a.1)
counted_same roots f g path text Passes s a = refl
counted_same roots f g path text Over s a = refl

counted_head : (f g : Files) (path text : List ℕ) (c : Counted) (s : State) → Agree f g (call_counted f path text c s).names → f path ≡ g path
counted_head f g path text Within s a = a.0
counted_head f g path text Passes s a = a.0
counted_head f g path text Over s a = a.0

known_same : (f g : Files) (b : Bool) (x y z : Called) → (Agree f g x.names → x ≡ y) → Agree f g (cond b z x).names → cond b z x ≡ cond b z y
known_same f g true x y z h a = refl
known_same f g false x y z h a = h a

known_head : (f g : Files) (b : Bool) (path : List ℕ) (x : Called) (s : State) → (Agree f g x.names → f path ≡ g path)
    → Agree f g (cond b (called [] (path ∷ []) s None) x).names → f path ≡ g path
known_head f g true path x s h a = a.0
known_head f g false path x s h a = h a

text_same : HasSameRoot → (f g : Files) (path : List ℕ) (o : Option (List ℕ)) (s : State) → Agree f g (call_text f path o s).names → call_text f path o s ≡ call_text g path o s
text_same roots f g path None s a = refl
text_same roots f g path (Some text) s a =
    known_same f g (is_some (tag_in path s)) (call_counted f path text (counted (length text) s.counts) s) (call_counted g path text (counted (length text) s.counts) s) (called [] (path ∷ []) s None)
    (counted_same roots f g path text (counted (length text) s.counts) s) a

text_head : (f g : Files) (path : List ℕ) (o : Option (List ℕ)) (s : State) → Agree f g (call_text f path o s).names → f path ≡ g path
text_head f g path None s a = a.0
text_head f g path (Some text) s a =
    known_head f g (is_some (tag_in path s)) path (call_counted f path text (counted (length text) s.counts) s) s (counted_head f g path text (counted (length text) s.counts) s) a

call_same : HasSameRoot → (f g : Files) (path : List ℕ) (s : State) → Agree f g (call_met f path s).names → call_met f path s ≡ call_met g path s
call_same roots f g path s a = text_same roots f g path (f path) s a ∙ ap (λ o. call_text g path o s) (text_head f g path (f path) s a)

-- a bean

bean_head : (f g : Files) (class path : List ℕ) (o : Option (List ℕ)) (s : State) → Agree f g (bean_text class path o s).names → f path ≡ g path
bean_head f g class path None s a = a.0
bean_head f g class path (Some text) s a = again (row_of class s.beans) a
  where
    open_count : (c : Counted) → Agree f g (Rattle.unit_words.specs.Beans.bean_counted class path text c s).names → f path ≡ g path
    open_count Within a = a.0
    open_count Passes a = a.0
    open_count Over a = a.0

    again : (o : Option _) → Agree f g (Rattle.unit_words.specs.Beans.bean_again class path text o s).names → f path ≡ g path
    again (Some bean) a = a.0
    again None a = open_count (counted (length text) s.counts) a

at_same : (f g : Files) (class : List ℕ) (o : Option (List ℕ)) (s : State) → Agree f g (bean_at f class o s).names → bean_at f class o s ≡ bean_at g class o s
at_same f g class None s a = refl
at_same f g class (Some path) s a = ap (λ o. bean_text class path o s) (bean_head f g class path (f path) s a)

bean_same : (f g : Files) (o : Option (List ℕ)) (s : State) → Agree f g (bean_met f o s).names → bean_met f o s ≡ bean_met g o s
bean_same f g None s a = refl
bean_same f g (Some class) s a = at_same f g class (bean_path class) s a

file_same : HasSameRoot → (f g : Files) (kind : Kind) (tag : Tag) (s : State) → Agree f g (file_met f kind tag s).names → file_met f kind tag s ≡ file_met g kind tag s
file_same roots f g (call path) tag s a = call_same roots f g path s a
file_same roots f g (standard (jsp.UseBean, row)) tag s a =
    ap (λ (bean : Step). called bean.faults bean.names bean.state None) (bean_same f g (value_of (codes "class") tag.attributes) s a)
file_same roots f g _ tag s a = refl

-- the walk

abbrev pub SameEnter : (f g : Files) → (e d : Root → State → Reading) → Type 0
SameEnter f g e d = (root : Root) (s : State) → Agree f g (names_met (e root s).events) → e root s ≡ d root s

abbrev SameMore : (f g : Files) → (m n : State → Reading) → Type 0
SameMore f g m n = (s : State) → Agree f g (names_met (m s).events) → m s ≡ n s

and_same : (f g : Files) (x y : Reading) (m n : State → Reading) → (Agree f g (names_met x.events) → x ≡ y) → SameMore f g m n
    → Agree f g (names_met (x >> m).events) → (x >> m) ≡ (y >> n)
and_same f g x y m n h k a =
    ap (followed x.events) (k x.state (met_right f g x.events (m x.state).events a))
    ∙ ap (λ (r : Reading). followed r.events (n r.state)) (h (met_left f g x.events (m x.state).events a))

if_same : (f g : Files) (b : Bool) (m n : State → Reading) → SameMore f g m n → SameMore f g (met_if b m) (met_if b n)
if_same f g true m n h s a = h s a
if_same f g false m n h s a = refl

tag_same : (f g : Files) (e d : Root → State → Reading) → SameEnter f g e d → (o : Option Root) → SameMore f g (tag_met e o) (tag_met d o)
tag_same f g e d h None s a = refl
tag_same f g e d h (Some root) s a = h root s a

-- what is met at an element whose file comes to this
abbrev element_met : Files → Root → (Root → State → Reading) → Here → Opened → InPlace → InPlace → Called → Reading
element_met files root enter here opened body next file =
    start_met root (kind_of root.directives opened.tag) here opened (flat body) file >> (λ s1. tag_met enter file.entered s1)
    >> (λ s2. walk files root enter (within (kind_of root.directives opened.tag) opened.tag here) body s2) >> (λ s3. walk files root enter (behind (kind_of root.directives opened.tag) here) next s3)

start_names : (f g : Files) (root : Root) (kind : Kind) (here : Here) (opened : Opened) (body : Tree) (file : Called)
    → Agree f g (names_met (start_met root kind here opened body file).events) → Agree f g file.names
start_names f g root kind here opened body file a =
    subst (Agree f g) (names_needed file.names) (first_part (start_met root kind here opened body file).events refl a)
  where
    first_part : (events : List Event) → events ≡ (start_met root kind here opened body file).events → Agree f g (names_met events) → Agree f g (names_met (needed file.names))
    first_part events e b = met_left f g (needed file.names) _ (subst (λ x. Agree f g (names_met x)) e b)

pub walk_same : HasSameRoot → (f g : Files) (root : Root) (e d : Root → State → Reading) → SameEnter f g e d → (here : Here) (nodes : InPlace) (s : State)
    → Agree f g (names_met (walk f root e here nodes s).events) → walk f root e here nodes s ≡ walk g root d here nodes s
walk_same roots f g root e d h here done s a = refl
walk_same roots f g root e d h here (leaf kind place next) s a =
    and_same f g (leaf_met root here kind place s) (leaf_met root here kind place s) (λ s1. walk f root e here next s1) (λ s1. walk g root d here next s1)
    (λ b. refl) (λ s1 b. walk_same roots f g root e d h here next s1 b) a
walk_same roots f g root e d h here (broken fault next) s a =
    and_same f g (met (faulty fault ∷ []) s) (met (faulty fault ∷ []) s) (λ s1. walk f root e here next s1) (λ s1. walk g root d here next s1)
    (λ b. refl) (λ s1 b. walk_same roots f g root e d h here next s1 b) a
walk_same roots f g root e d h here (included x entry body next) s a =
    and_same f g (include_met root x entry s >> met_if (goes_in entry s) (λ s2. walk f root e here body s2)) (include_met root x entry s >> met_if (goes_in entry s) (λ s2. walk g root d here body s2))
    (λ s3. walk f root e (behind_all root.directives body here) next s3) (λ s3. walk g root d (behind_all root.directives body here) next s3)
    (and_same f g (include_met root x entry s) (include_met root x entry s) (met_if (goes_in entry s) (λ s2. walk f root e here body s2)) (met_if (goes_in entry s) (λ s2. walk g root d here body s2))
    (λ b. refl) (if_same f g (goes_in entry s) (λ s2. walk f root e here body s2) (λ s2. walk g root d here body s2) (λ s2 b. walk_same roots f g root e d h here body s2 b)))
    (λ s3 b. walk_same roots f g root e d h (behind_all root.directives body here) next s3 b) a
walk_same roots f g root e d h here (element opened body next) s a =
    let kind : Kind = kind_of root.directives opened.tag in
    let file : Called = file_met f kind opened.tag (nested here s) in
    let start : Reading = start_met root kind here opened (flat body) file in
    let in_body : State → Reading = λ s2. walk f root e (within kind opened.tag here) body s2 in
    let in_body_too : State → Reading = λ s2. walk g root d (within kind opened.tag here) body s2 in
    let two : Reading = start >> tag_met e file.entered in
    let two_too : Reading = start >> tag_met d file.entered in
    let names : Agree f g file.names = start_names f g root kind here opened (flat body) file
    (met_left f g start.events (tag_met e file.entered start.state).events
    (met_left f g two.events (in_body two.state).events
    (met_left f g (two >> in_body).events (walk f root e (behind kind here) next (two >> in_body).state).events a))) in
    and_same f g (two >> in_body) (two_too >> in_body_too) (λ s3. walk f root e (behind kind here) next s3) (λ s3. walk g root d (behind kind here) next s3)
    (and_same f g two two_too in_body in_body_too
    (and_same f g start start (tag_met e file.entered) (tag_met d file.entered) (λ b. refl) (tag_same f g e d h file.entered))
    (λ s2 b. walk_same roots f g root e d h (within kind opened.tag here) body s2 b))
    (λ s3 b. walk_same roots f g root e d h (behind kind here) next s3 b) a
    ∙ ap (element_met g root d here opened body next) (file_same roots f g kind opened.tag (nested here s) names)

pub within_same : HasSameRoot → (f g : Files) (deep : ℕ) → SameEnter f g (met_within deep f) (met_within deep g)
within_same roots f g zero root s a = refl
within_same roots f g (suc deep) root s a =
    ap (back_to s) (walk_same roots f g root (met_within deep f) (met_within deep g) (within_same roots f g deep) outermost root.nodes (with_before nothing_before s) a)
