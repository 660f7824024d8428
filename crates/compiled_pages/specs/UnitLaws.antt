-- The unit of a path in trees that agree on what it needs.
use Rattle.std.proofs.Common.{◌≡◌, ℕ, Bool, true, false, ◌||◌, List, [], ◌∷◌, ◌++◌, Option, Some, None, refl, sym, ap, subst, ◌∙◌}
use Rattle.std.proofs.lemmas.Bool.{false≢true}
use Rattle.std.proofs.lemmas.Bool.Decides.{Decides-eqb}
use Rattle.std.specs.Cmp.Lexicographic.{bytes_decides}
use Rattle.std.specs.Option.{option_map}
use Rattle.std.specs.Prelude.{if◌then◌else◌}
use Rattle.std.specs.Str.{bytes_eq}
use Rattle.compiled_pages.specs.Pages.{unit_in}
use Rattle.pg_text.specs.Names.{has_name}
use Rattle.site_words.proofs.Items.{and_both, and_left, and_right}
use Rattle.site_words.specs.Trees.{OneHistory, agrees, opt_eq}
use Rattle.source_tree.specs.Stamps.{stamp_of}
use Rattle.source_tree.specs.declared.file.File.{File}
use Rattle.source_tree.specs.declared.need.Need.{Need}
use Rattle.unit_source.proofs.AgreeSplice.{root_same}
use Rattle.unit_source.specs.Files.{Files, text_in}
use Rattle.unit_source.specs.First.{most_deep}
use Rattle.unit_source.specs.Laws.{Agree}
use Rattle.unit_source.specs.Root.{Root, rooted}
use Rattle.unit_words.proofs.AgreeUnit.{same_unit}
use Rattle.unit_words.proofs.LeastNames.{least_names}
use Rattle.unit_words.specs.Needs.{needs_of}
use Rattle.unit_words.specs.State.{needed}
use Rattle.unit_words.specs.Unit.{Unit, begun, is_xml, names_met, page_met, unit_of, unit_read, xml_unit}
use Rattle.unit_words.specs.Walk.{met_within}

same_self : (s : Option ℕ) → opt_eq s s ≡ true
same_self None = refl
same_self (Some n) = (Decides-eqb n n).1 refl

same_is : (a b : Option ℕ) → opt_eq a b ≡ true → a ≡ b
same_is None None h = refl
same_is None (Some b) h = absurd (false≢true h)
same_is (Some a) None h = absurd (false≢true h)
same_is (Some a) (Some b) h = ap (λ n. Some n) ((Decides-eqb a b).0 h)

-- the stamps of names stand so in their own tree
pub stamps_stand : (tree : List File) (names : List (List ℕ)) → agrees (needs_of tree names) tree ≡ true
stamps_stand tree [] = refl
stamps_stand tree (name ∷ names) = and_both (opt_eq (stamp_of name tree) (stamp_of name tree)) (agrees (needs_of tree names) tree) (same_self (stamp_of name tree)) (stamps_stand tree names)

-- where names have the stamps of another tree of the history, they have its texts
pub texts_agree : (a b : List File) → OneHistory a b → (names : List (List ℕ)) → agrees (needs_of a names) b ≡ true → Agree (text_in a) (text_in b) names
texts_agree a b one [] agree = tt
texts_agree a b one (name ∷ names) agree =
    let here = same_is (stamp_of name b) (stamp_of name a) (and_left (opt_eq (stamp_of name b) (stamp_of name a)) (agrees (needs_of a names) b) agree) in (
      ap (option_map (λ (file : File). file.text)) (one name (sym here)),
      texts_agree a b one names (and_right (opt_eq (stamp_of name b) (stamp_of name a)) (agrees (needs_of a names) b) agree),
    )

abbrev need : List ℕ → Option ℕ → Need
need name stamp = record { name = name; stamp = stamp }

-- and its stamps
pub stamps_agree : (a b : List File) (names : List (List ℕ)) → agrees (needs_of a names) b ≡ true → needs_of a names ≡ needs_of b names
stamps_agree a b [] agree = refl
stamps_agree a b (name ∷ names) agree =
    let here = same_is (stamp_of name b) (stamp_of name a) (and_left (opt_eq (stamp_of name b) (stamp_of name a)) (agrees (needs_of a names) b) agree) in
    ap (λ s. need name s ∷ needs_of a names) (sym here)
    ∙ ap (λ rest. need name (stamp_of name b) ∷ rest) (stamps_agree a b names (and_right (opt_eq (stamp_of name b) (stamp_of name a)) (agrees (needs_of a names) b) agree))

-- sites that agree on names agree on each of them
agree_at : (f g : Files) (name : List ℕ) (names : List (List ℕ)) → has_name name names ≡ true → Agree f g names → f name ≡ g name
agree_at f g name [] among agree = absurd (false≢true among)
agree_at f g name (other ∷ names) among agree = go (bytes_eq name other) refl among (λ later. agree_at f g name names later agree.1)
  where
    go : (b : Bool) → bytes_eq name other ≡ b → (b || has_name name names) ≡ true → (has_name name names ≡ true → f name ≡ g name) → f name ≡ g name
    go true is among later = subst (λ n. f n ≡ g n) (sym ((bytes_decides name other).0 is)) agree.0
    go false is among later = later among

first_met : (files : Files) (root : Root) → has_name root.path (names_met (page_met files root).events) ≡ true
first_met files root =
    let behind : List (List ℕ) = names_met (needed root.names ++ (met_within most_deep files root (begun root.bytes)).events) in
    ap (λ (b : Bool). b || has_name root.path behind) ((bytes_decides root.path root.path).1 refl)

read_needs : (files : Files) (root : Root) → has_name root.path (unit_read files root).deps ≡ true
read_needs files root = (least_names files root).same root.path ∙ first_met files root

root_path : (files : Files) (path text : List ℕ) → (rooted files false path text).path ≡ path
unfolding rooted
root_path files path text = refl

-- the path of a page is among its unit's dependencies
needs_path : (files : Files) (path text : List ℕ) → has_name path (unit_of files path text).deps ≡ true
needs_path files path text = go (is_xml path)
  where
    go : (b : Bool) → has_name path (if b then xml_unit path else unit_read files (rooted files false path text)).deps ≡ true
    go true = ap (λ (b : Bool). b || false) ((bytes_decides path path).1 refl)
    go false = subst (λ p. has_name p (unit_read files (rooted files false path text)).deps ≡ true) (root_path files path text) (read_needs files (rooted files false path text))

-- a path has one unit in trees of one history that agree on what the unit needs
pub unit_stands : (a b : List File) (path : List ℕ) (unit : Unit) → OneHistory a b → agrees (needs_of a unit.deps) b ≡ true → unit_in a path ≡ Some unit → unit_in b path ≡ Some unit
unfolding unit_in
unit_stands a b path unit one agree stands = go (text_in a path) refl stands
  where
    found : (text : List ℕ) → text_in a path ≡ Some text → unit_of (text_in a) path text ≡ unit → option_map (unit_of (text_in b) path) (text_in b path) ≡ Some unit
    found text there is =
        let all = texts_agree a b one unit.deps agree in
        let of_text = subst (λ (u : Unit). Agree (text_in a) (text_in b) u.deps) (sym is) all in
        let here = agree_at (text_in a) (text_in b) path (unit_of (text_in a) path text).deps (needs_path (text_in a) path text) of_text in
        ap (option_map (unit_of (text_in b) path)) (sym here ∙ there) ∙ ap (λ u. Some u) (sym (same_unit root_same (text_in a) (text_in b) path text of_text) ∙ is)

    go : (t : Option (List ℕ)) → text_in a path ≡ t → option_map (unit_of (text_in a) path) t ≡ Some unit → option_map (unit_of (text_in b) path) (text_in b path) ≡ Some unit
    go None there stands = absurd (cc)
    go (Some text) there stands = found text there (cc)
