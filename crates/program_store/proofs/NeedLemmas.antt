-- The paths of shelves need the names of what their values need.
use Rattle.std.proofs.Common.{◌≡◌, ℕ, Bool, true, false, List, [], ◌∷◌, map, filter, refl, sym, ap, ◌∙◌, if◌then◌else◌}
use Rattle.std.specs.Prelude.{◌||◌}
use Rattle.std.specs.Arc.{arc_value}
use Rattle.std.specs.Cmp.Lexicographic.{same_text}
use Rattle.std.specs.List.{list_any}
use Rattle.std.specs.Ordering.{match_ordering}
use Rattle.std.specs.declared.cmp.Ordering.{Ordering}
use Rattle.std.specs.declared.cmp.Ordering.TheVariants.{Less, Equal, Greater}
use Rattle.pg_text.specs.Names.{has_name, with_name}
use Rattle.pg_text.specs.Order.{path_cmp}
use Rattle.pg_text.proofs.OrderLemmas.{eq_tested}
use Rattle.dep_graph.specs.Deps as deps
use Rattle.dep_graph.specs.declared.entries.Dependent.{Dependent}
use Rattle.source_tree.specs.declared.need.Need.{Need}
use Rattle.site_words.specs.Trees as trees
use Rattle.program_store.specs.declared.shelf.Shelf.{Shelf}
use Rattle.program_store.specs.Store.{dependent_of, dirty_in, is_dirty, kept_of, kept_path, names_in, need_name, needing}

or_same : (a b : Bool) → (a || b) ≡ (a || (a || b))
or_same true b = refl
or_same false b = refl

or_turned : (a b c : Bool) → (a || (b || c)) ≡ (b || (a || c))
or_turned true true c = refl
or_turned true false c = refl
or_turned false b c = refl

or_behind : (a b c : Bool) → (a || (b || c)) ≡ ((b || a) || c)
or_behind true true c = refl
or_behind true false c = refl
or_behind false true c = refl
or_behind false false c = refl

or_none : (a : Bool) → (a || false) ≡ a
or_none true = refl
or_none false = refl

-- a test of names, of which one is put among the others
any_with : (test : List ℕ → Bool) (name : List ℕ) (names : List (List ℕ)) → list_any test (with_name name names) ≡ (test name || list_any test names)
any_with test name [] = refl
any_with test name (n ∷ names) = go (path_cmp name n) refl (any_with test name names)
  where
    go : (o : Ordering) → path_cmp name n ≡ o → list_any test (with_name name names) ≡ (test name || list_any test names)
        → list_any test (match_ordering o (name ∷ n ∷ names) (n ∷ names) (n ∷ with_name name names)) ≡ (test name || (test n || list_any test names))
    go Less is more = refl
    go Equal is more = or_same (test n) (list_any test names) ∙ ap (λ m. test m || (test n || list_any test names)) (sym (same_text name n (sym (eq_tested name n Equal is))))
    go Greater is more = ap (λ b. test n || b) more ∙ or_turned (test n) (test name) (list_any test names)

-- names meet others where the needs of which they are do
meets_with : (needs : List Need) (names changed : List (List ℕ)) → deps.meets (deps.with_names (map need_name needs) names) changed ≡ (trees.meets needs changed || deps.meets names changed)
meets_with [] names changed = refl
meets_with (need ∷ needs) names changed =
    meets_with needs (with_name need.name names) changed
    ∙ ap (λ b. trees.meets needs changed || b) (any_with (λ name. has_name name changed) need.name names)
    ∙ or_behind (trees.meets needs changed) (has_name need.name changed) (deps.meets names changed)

names_meet : (needs : List Need) (changed : List (List ℕ)) → deps.meets (names_in needs) changed ≡ trees.meets needs changed
names_meet needs changed = meets_with needs [] changed ∙ or_none (trees.meets needs changed)

-- the paths that need a changed name are those whose values do
pub dirty_needing : {P : Type 0} (needed : P → List Need) (changed : List (List ℕ)) (shelves : List (Shelf P)) → deps.dirty_of changed (needing needed shelves) ≡ dirty_in needed changed (map kept_of shelves)
dirty_needing needed changed [] = refl
dirty_needing {P} needed changed (shelf ∷ shelves) =
    go (deps.meets (names_in (needed (arc_value shelf.made))) changed) (is_dirty needed changed (kept_of shelf)) (names_meet (needed (arc_value shelf.made)) changed) (dirty_needing needed changed shelves)
  where
    told : List Dependent
    told = filter (λ (dependent : Dependent). deps.meets dependent.names changed) (needing needed shelves)

    kept : List (List ℕ × P)
    kept = filter (is_dirty needed changed) (map kept_of shelves)

    go : (b c : Bool) → b ≡ c → map deps.path_of told ≡ map kept_path kept
        → map deps.path_of (if b then dependent_of needed shelf ∷ told else told) ≡ map kept_path (if c then kept_of shelf ∷ kept else kept)
    go true true same more = ap (λ l. shelf.path ∷ l) more
    go true false same more = absurd (cc)
    go false true same more = absurd (cc)
    go false false same more = more
