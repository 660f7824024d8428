-- Sites that agree on the names of a root have the same root.
use Rattle.std.proofs.Common.{◌≡◌, ℕ, zero, suc, Bool, true, false, cond, List, [], ◌∷◌, refl, ap, ◌∙◌, leb, Option, Some, None, length}
use Rattle.std.specs.Prelude.{codes}
use Rattle.std.specs.Option.{is_some}
use Rattle.pg_value.specs.declared.settings.PageSettings.{PageSettings}
use Rattle.page_pieces.specs.declared.setting.BroughtPrefixes.{BroughtPrefixes}
use Rattle.page_pieces.specs.Settings.{brought_at, contains_text, value_of}
use Rattle.page_directives.specs.Directive.{Directive}
use Rattle.page_directives.specs.Settings.{settings_of}
use Rattle.unit_source.specs.declared.entry.Entry.{Entry}
use Rattle.unit_source.specs.declared.entry.Entry.TheVariants.{Cycle, Unread}
use Rattle.unit_source.specs.Files.{Files}
use Rattle.unit_source.specs.First.{First, included_path, own_directives, firsts_by, brought_by, brought_names, first_within, most_deep}
use Rattle.unit_source.specs.InPlace.{InPlace, done, leaf, element, broken, included}
use Rattle.unit_source.specs.Laws.{Agree}
use Rattle.unit_source.specs.Root.{root_of, second_reading, with_first, rooted}
use Rattle.unit_source.specs.Splice.{Going, Spliced, full, level_within, registered, with_prefixes, with_file, Inner, Enter, most_nested, nothing_read, file_read, room_read, text_read, target_read, include_read, leaf_then, element_then, broken_then, include_then, nodes_read, file_nodes, with_names, file_with, spliced_within}
use Rattle.unit_source.specs.Volume.{has_room, one_file}
use Rattle.unit_source.proofs.AgreeFirst.{agree_left, agree_right, within_same, firsts_same}

-- so are the readings that enter a file
abbrev pub SameSpliced : (f g : Files) → (e d : Enter) → Type 0
SameSpliced f g e d = (around : ℕ) (path text : List ℕ) (going : Going) → Agree f g (e around path text going).names → e around path text going ≡ d around path text going

read_if : (f g : Files) (b : Bool) (target text : List ℕ) (x y : Spliced) (going : Going) (z : Inner) → (Agree f g x.names → x ≡ y)
    → Agree f g (cond b (file_read target text x going) z).names → cond b (file_read target text x going) z ≡ cond b (file_read target text y going) z
read_if f g true target text x y going z h a = ap (λ s. file_read target text s going) (h a.1)
read_if f g false target text x y going z h a = refl

head_if : (f g : Files) (b : Bool) (target text : List ℕ) (x : Spliced) (going later : Going) (entry : Entry)
    → Agree f g (cond b (file_read target text x going) (nothing_read entry (target ∷ []) later)).names → f target ≡ g target
head_if f g true target text x going later entry a = a.0
head_if f g false target text x going later entry a = a.0

room_head : (f g : Files) (e : Enter) (around : ℕ) (target text : List ℕ) (going : Going) → Agree f g (room_read e around target text going).names → f target ≡ g target
room_head f g e around target text going a =
    head_if f g (has_room (length text) going.volume) target text (e around target text (with_file (length text) going)) going (full going) (Unread (length text)) a

nested_head : (f g : Files) (b : Bool) (target : List ℕ) (x : Inner) (going : Going) (entry : Entry) → (Agree f g x.names → f target ≡ g target)
    → Agree f g (cond b x (nothing_read entry (target ∷ []) going)).names → f target ≡ g target
nested_head f g true target x going entry h a = h a
nested_head f g false target x going entry h a = a.0

head_of : (f g : Files) (e : Enter) (around : ℕ) (target : List ℕ) (o : Option (List ℕ)) (going : Going)
    → Agree f g (text_read e around target o going).names → f target ≡ g target
head_of f g e around target None going a = a.0
head_of f g e around target (Some text) going a =
    nested_head f g (leb around most_nested) target (room_read e around target text going) going (Unread (length text)) (room_head f g e around target text going) a

room_same : (f g : Files) (e d : Enter) → SameSpliced f g e d → (around : ℕ) (target text : List ℕ) (going : Going)
    → Agree f g (room_read e around target text going).names → room_read e around target text going ≡ room_read d around target text going
room_same f g e d h around target text going a =
    read_if f g (has_room (length text) going.volume) target text (e around target text (with_file (length text) going)) (d around target text (with_file (length text) going)) going
    (nothing_read (Unread (length text)) (target ∷ []) (full going)) (h around target text (with_file (length text) going)) a

nested_if : (f g : Files) (b : Bool) (x y z : Inner) → (Agree f g x.names → x ≡ y) → Agree f g (cond b x z).names → cond b x z ≡ cond b y z
nested_if f g true x y z h a = h a
nested_if f g false x y z h a = refl

text_same : (f g : Files) (e d : Enter) → SameSpliced f g e d → (around : ℕ) (target : List ℕ) (o : Option (List ℕ)) (going : Going)
    → Agree f g (text_read e around target o going).names → text_read e around target o going ≡ text_read d around target o going
text_same f g e d h around target None going a = refl
text_same f g e d h around target (Some text) going a =
    nested_if f g (leb around most_nested) (room_read e around target text going) (room_read d around target text going) (nothing_read (Unread (length text)) (target ∷ []) going)
    (room_same f g e d h around target text going) a

chain_if : (f g : Files) (b : Bool) (x y z : Inner) → (Agree f g x.names → x ≡ y) → Agree f g (cond b z x).names → cond b z x ≡ cond b z y
chain_if f g true x y z h a = refl
chain_if f g false x y z h a = h a

target_same : (f g : Files) (e d : Enter) → SameSpliced f g e d → (chain : List (List ℕ)) (around : ℕ) (has : Bool) (o : Option (List ℕ)) (going : Going)
    → Agree f g (target_read e f chain around has o going).names → target_read e f chain around has o going ≡ target_read d g chain around has o going
target_same f g e d h chain around false o going a = refl
target_same f g e d h chain around true None going a = refl
target_same f g e d h chain around true (Some target) going a =
    chain_if f g (contains_text target chain) (text_read e around target (f target) going) (text_read d around target (g target) going) (nothing_read Cycle (target ∷ []) going)
    (λ inner. text_same f g e d h around target (f target) going inner ∙ ap (λ o. text_read d around target o going) (head_of f g e around target (f target) going inner)) a

abbrev pub SameRead : (f g : Files) → (r s : ℕ → Directive → Going → Inner) → Type 0
SameRead f g r s = (around : ℕ) (d : Directive) (going : Going) → Agree f g (r around d going).names → r around d going ≡ s around d going

nodes_same : (f g : Files) (r s : ℕ → Directive → Going → Inner) → SameRead f g r s → (brought : List BroughtPrefixes) (around : ℕ) (nodes : InPlace) (going : Going)
    → Agree f g (nodes_read r brought around nodes going).names → nodes_read r brought around nodes going ≡ nodes_read s brought around nodes going
nodes_same f g r s h brought around done going a = refl
nodes_same f g r s h brought around (leaf kind place next) going a = ap (leaf_then kind place) (nodes_same f g r s h brought around next (with_prefixes (registered kind place) going) a)
nodes_same f g r s h brought around (broken fault next) going a = ap (broken_then fault) (nodes_same f g r s h brought around next going a)
nodes_same f g r s h brought around (element opened body next) going a =
    let inner : Spliced = nodes_read r brought (level_within around) body going in
    let later : Spliced = nodes_read r brought around next inner.going in
    ap (element_then opened inner) (nodes_same f g r s h brought around next inner.going (agree_right f g inner.names later.names a))
    ∙ ap (λ i. element_then opened i (nodes_read s brought around next i.going)) (nodes_same f g r s h brought (level_within around) body going (agree_left f g inner.names later.names a))
nodes_same f g r s h brought around (included d entry body next) going a =
    let inner : Inner = r around d going in
    let later : Spliced = nodes_read r brought around next (with_prefixes (brought_at d.place.byte brought) inner.going) in
    ap (include_then d inner) (nodes_same f g r s h brought around next (with_prefixes (brought_at d.place.byte brought) inner.going) (agree_right f g inner.names later.names a))
    ∙ ap (λ i. include_then d i (nodes_read s brought around next (with_prefixes (brought_at d.place.byte brought) i.going))) (h around d going (agree_left f g inner.names later.names a))

with_same : (f g : Files) (e d : Enter) → SameSpliced f g e d → (settings : PageSettings) (chain : List (List ℕ)) (around : ℕ) (path text : List ℕ) (going : Going)
    (firsts : List (ℕ × First)) → Agree f g (file_with e f settings chain around path text going firsts).names
    → file_with e f settings chain around path text going firsts ≡ file_with d g settings chain around path text going firsts
with_same f g e d h settings chain around path text going firsts a =
    ap (with_names (brought_names firsts))
    (nodes_same f g (include_read e f chain) (include_read d g chain) (λ n x y. target_same f g e d h chain n (is_some (value_of (codes "file") x.attributes)) (included_path x) y)
    (brought_by firsts) around (file_nodes settings going.prefixes (brought_by firsts) path text) going
    (agree_right f g (brought_names firsts)
    (nodes_read (include_read e f chain) (brought_by firsts) around (file_nodes settings going.prefixes (brought_by firsts) path text) going).names a))

pub spliced_same : (f g : Files) (deep : ℕ) (settings : PageSettings) (chain : List (List ℕ)) → SameSpliced f g (spliced_within deep f settings chain) (spliced_within deep g settings chain)
unfolding spliced_within
spliced_same f g zero settings chain around path text going a = refl
spliced_same f g (suc deep) settings chain around path text going a =
    let longer : List (List ℕ) = path ∷ chain in
    let firsts : List (ℕ × First) = firsts_by f longer (one_file (length text)) (own_directives path text) in
    with_same f g (spliced_within deep f settings longer) (spliced_within deep g settings longer) (spliced_same f g deep settings longer) settings longer around path text going firsts a
    ∙ ap (file_with (spliced_within deep g settings longer) g settings longer around path text going)
    (firsts_same f g longer (own_directives path text) (one_file (length text)) (agree_left f g (brought_names firsts)
    (nodes_read (include_read (spliced_within deep f settings longer) f longer) (brought_by firsts) around (file_nodes settings going.prefixes (brought_by firsts) path text) going).names a))

-- sites that agree on the names of a page or a tag file read it as the same
pub root_same : (f g : Files) (in_tag : Bool) (path text : List ℕ) → Agree f g (rooted f in_tag path text).names → rooted f in_tag path text ≡ rooted g in_tag path text
unfolding rooted
root_same f g in_tag path text a =
    let first : First = first_within most_deep f [] (one_file (length text)) path text in
    let settings : PageSettings = settings_of in_tag first.directives in
    let second : Spliced = second_reading f settings path text in
    ap (root_of path text in_tag first settings)
    (spliced_same f g most_deep settings [] 0 path text (record { prefixes = []; volume = one_file (length text) }) (agree_right f g first.names second.names a))
    ∙ ap (with_first g in_tag path text) (within_same f g most_deep [] (one_file (length text)) path text (agree_left f g first.names second.names a))
