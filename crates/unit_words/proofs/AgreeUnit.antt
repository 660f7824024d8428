-- Sites that hold the same at the dependencies of a page have the same unit of it.
use Rattle.std.proofs.Common.{◌≡◌, ℕ, Bool, true, false, cond, List, [], ◌∷◌, refl, ap, sym, subst, ◌∙◌}
use Rattle.std.proofs.lemmas.Map.Lookups.{exact_bytes}
use Rattle.std.specs.Cmp.Lexicographic.{slice_cmp}
use Rattle.std.specs.Ordering.{match_ordering, nat_cmp}
use Rattle.std.specs.declared.cmp.Ordering.{Ordering}
use Rattle.std.specs.declared.cmp.Ordering.TheVariants.{Less, Equal, Greater}
use Rattle.pg_text.specs.Names.{with_name}
use Rattle.unit_source.specs.Files.{Files}
use Rattle.unit_source.specs.First.{most_deep}
use Rattle.unit_source.specs.Laws.{Agree, HasSameRoot}
use Rattle.unit_source.specs.Root.{Root, rooted}
use Rattle.unit_words.specs.State.{followed, needed}
use Rattle.unit_words.specs.Unit.{begun, page_met, names_met, names_with, Unit, unit_by, unit_read, is_xml, xml_unit}
use Rattle.unit_words.specs.Walk.{met_within}
use Rattle.unit_words.specs.Laws.{HasSameUnit}
use Rattle.unit_words.proofs.AgreeWalk.{names_needed, met_left, met_right, within_same}

order_agrees : (f g : Files) (name other : List ℕ) (names : List (List ℕ)) (o : Ordering) → (o ≡ Equal → name ≡ other)
    → (Agree f g (with_name name names) → (f name ≡ g name) × Agree f g names)
    → Agree f g (match_ordering o (name ∷ other ∷ names) (other ∷ names) (other ∷ with_name name names)) → (f name ≡ g name) × Agree f g (other ∷ names)
order_agrees f g name other names Less e h a = a
order_agrees f g name other names Greater e h a = ((h a.1).0, (a.0, (h a.1).1))
order_agrees f g name other names Equal e h a = (subst (λ n. f n ≡ g n) (sym (e refl)) a.0, a)

among_agrees : (f g : Files) (name : List ℕ) (names : List (List ℕ)) → Agree f g (with_name name names) → (f name ≡ g name) × Agree f g names
among_agrees f g name [] a = a
among_agrees f g name (other ∷ names) a = order_agrees f g name other names (slice_cmp nat_cmp name other) (exact_bytes name other) (among_agrees f g name names) a

-- what holds of the names in order holds of all names
with_agrees : (f g : Files) (kept names : List (List ℕ)) → Agree f g (names_with kept names) → Agree f g kept × Agree f g names
with_agrees f g kept [] a = (a, tt)
with_agrees f g kept (name ∷ names) a =
    let later = with_agrees f g (with_name name kept) names a in
    let among = among_agrees f g name kept later.0 in
    (among.1, (among.0, later.1))

read_same : HasSameRoot → (f g : Files) (root : Root) → Agree f g (names_met (page_met f root).events) → unit_read f root ≡ unit_read g root
read_same roots f g root a =
    ap (λ r. unit_by root (followed (needed (root.path ∷ root.names)) r))
    (within_same roots f g most_deep root (begun root.bytes) (met_right f g (needed (root.path ∷ root.names)) (met_within most_deep f root (begun root.bytes)).events a))

xml_same : (f g : Files) (b : Bool) (x y z : Unit) → (Agree f g x.deps → x ≡ y) → Agree f g (cond b z x).deps → cond b z x ≡ cond b z y
xml_same f g true x y z h a = refl
xml_same f g false x y z h a = h a

pub same_unit : HasSameRoot → HasSameUnit
same_unit roots f g path text a =
    let root : Root = rooted f false path text in
    xml_same f g (is_xml path) (unit_read f root) (unit_read g (rooted g false path text)) (xml_unit path) (λ b. same root refl (with_agrees f g [] (names_met (page_met f root).events) b).1) a
  where
    same : (root : Root) → root ≡ rooted f false path text → Agree f g (names_met (page_met f root).events) → unit_read f root ≡ unit_read g (rooted g false path text)
    same root e b =
        read_same roots f g root b ∙ ap (unit_read g) (e ∙ roots f g false path text (subst (λ (r : Root). Agree f g r.names) e
        (subst (Agree f g) (names_needed (root.path ∷ root.names)) (met_left f g (needed (root.path ∷ root.names)) (met_within most_deep f root (begun root.bytes)).events b)).1))
