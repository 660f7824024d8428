-- The names that reading meets, each once in byte order.
use Rattle.std.proofs.Common.{◌≡◌, ℕ, Bool, true, false, cond, ◌||◌, List, [], ◌∷◌, refl, ap, sym, ◌∙◌, subst}
use Rattle.std.proofs.lemmas.Map.Lookups.{exact_bytes}
use Rattle.std.specs.Cmp.Lexicographic.{slice_cmp}
use Rattle.std.specs.Ordering.{match_ordering, nat_cmp}
use Rattle.std.specs.Str.{bytes_eq}
use Rattle.std.specs.declared.cmp.Ordering.{Ordering}
use Rattle.std.specs.declared.cmp.Ordering.TheVariants.{Less, Equal, Greater}
use Rattle.pg_text.specs.Names.{AreInOrder, has_name, with_name}
use Rattle.pg_text.proofs.NameOrder.{none_in_order, order_with_name}
use Rattle.unit_source.specs.Files.{Files}
use Rattle.unit_source.specs.Root.{Root, rooted}
use Rattle.unit_words.specs.Laws.{AreAllOf, HasNamesOfReading}
use Rattle.unit_words.specs.Unit.{is_xml, names_met, names_with, page_met, unit_read, xml_unit}

or_moved : (a b c : Bool) → ((a || b) || c) ≡ (b || (a || c))
or_moved true true c = refl
or_moved true false c = refl
or_moved false true c = refl
or_moved false false c = refl

or_swapped : (a b c : Bool) → (a || (b || c)) ≡ (b || (a || c))
or_swapped true true c = refl
or_swapped true false c = refl
or_swapped false true c = refl
or_swapped false false c = refl

or_twice : (a c : Bool) → (a || (a || c)) ≡ (a || c)
or_twice true c = refl
or_twice false c = refl

-- a name is among those with one more exactly where it is that one or among the others
among : (wanted name other : List ℕ) (names : List (List ℕ)) (o : Ordering) → (o ≡ Equal → name ≡ other)
    → has_name wanted (with_name name names) ≡ (bytes_eq wanted name || has_name wanted names)
    → has_name wanted (match_ordering o (name ∷ other ∷ names) (other ∷ names) (other ∷ with_name name names)) ≡ (bytes_eq wanted name || (bytes_eq wanted other || has_name wanted names))
among wanted name other names Less e more = refl
among wanted name other names Equal e more =
    subst (λ n. (bytes_eq wanted other || has_name wanted names) ≡ (bytes_eq wanted n || (bytes_eq wanted other || has_name wanted names))) (sym (e refl))
    (sym (or_twice (bytes_eq wanted other) (has_name wanted names)))
among wanted name other names Greater e more = ap (λ b. bytes_eq wanted other || b) more ∙ or_swapped (bytes_eq wanted other) (bytes_eq wanted name) (has_name wanted names)

among_with : (wanted name : List ℕ) (names : List (List ℕ)) → has_name wanted (with_name name names) ≡ (bytes_eq wanted name || has_name wanted names)
among_with wanted name [] = refl
among_with wanted name (other ∷ names) = among wanted name other names (slice_cmp nat_cmp name other) (exact_bytes name other) (among_with wanted name names)

among_all : (wanted : List ℕ) (kept names : List (List ℕ)) → has_name wanted (names_with kept names) ≡ (has_name wanted kept || has_name wanted names)
among_all wanted kept [] = none (has_name wanted kept)
  where
    none : (b : Bool) → b ≡ (b || false)
    none true = refl
    none false = refl
among_all wanted kept (name ∷ names) =
    among_all wanted (with_name name kept) names
    ∙ ap (λ b. b || has_name wanted names) (among_with wanted name kept)
    ∙ or_moved (bytes_eq wanted name) (has_name wanted kept) (has_name wanted names)

order_with : (kept names : List (List ℕ)) → AreInOrder kept → AreInOrder (names_with kept names)
order_with kept [] order = order
order_with kept (name ∷ names) order = order_with (with_name name kept) names (order_with_name name kept order)

-- the names on which a page that is read depends
pub least_names : (files : Files) (page : Root) → AreAllOf (names_met (page_met files page).events) (unit_read files page).deps
least_names files page = record {
  order = order_with [] (names_met (page_met files page).events) none_in_order;
  same = λ name. among_all name [] (names_met (page_met files page).events);
}

-- the same of each unit
pub names_of_reading : HasNamesOfReading
names_of_reading files path text = by_syntax (is_xml path)
  where
    page : Root
    page = rooted files false path text

    by_syntax : (b : Bool) → AreAllOf (cond b (path ∷ []) (names_met (page_met files page).events)) (cond b (xml_unit path) (unit_read files page)).deps
    by_syntax true = record { order = order_with_name path [] none_in_order; same = λ name. refl }
    by_syntax false = least_names files page
