-- The paths that need one of some names, told name by name.
use Rattle.std.proofs.Common.{◌≡◌, ◌<◌, ℕ, ◌+◌, Bool, true, false, List, [], ◌∷◌, ◌++◌, length, get_or, map, filter, take, drop, refl, sym, ap, ◌∙◌, if◌then◌else◌}
use Rattle.std.specs.Prelude.{◌||◌}
use Rattle.std.specs.List.{All}
use Rattle.std.specs.Ordering.{match_ordering}
use Rattle.std.specs.Str.{bytes_eq}
use Rattle.std.specs.declared.cmp.Ordering.TheVariants.{Greater}
use Rattle.std.proofs.lemmas.List.{drop_more, take_more}
use Rattle.std.proofs.lemmas.List.Elements.{All-filter, All-head, All-map, All-tail, All-weaker}
use Rattle.std.proofs.lemmas.List.Folds.{list_any-append}
use Rattle.std.proofs.lemmas.Cmp.{nat_list_cmp_total, nat_list_eq_equiv, tied_itself}
use Rattle.pg_text.specs.Names.{has_name, with_name}
use Rattle.pg_text.specs.Order.{AreRising, path_cmp}
use Rattle.pg_text.proofs.ItemLemmas.{IsBelow, later, rest}
use Rattle.pg_text.proofs.NameLemmas.{with_higher}
use Rattle.pg_text.proofs.OrderLemmas.{above_from_below}
use Rattle.dep_graph.specs.declared.entries.Dependent.{Dependent}
use Rattle.dep_graph.specs.Deps.{dirty_of, meets, path_of, users_of, with_names}

either : (a e m h : Bool) → ((a || (e || false)) || (m || h)) ≡ ((a || m) || (e || h))
either true e m h = refl
either false true true h = refl
either false true false h = refl
either false false m h = refl

-- where no name is changed nothing is dirty
pub none_dirty : (dependents : List Dependent) → dirty_of [] dependents ≡ []
none_dirty [] = refl
none_dirty (dependent ∷ dependents) = rw (none dependent.names) (none_dirty dependents)
  where
    none : (names : List (List ℕ)) → meets names [] ≡ false
    none [] = refl
    none (name ∷ names) = none names

-- one changed name more
meets_more : (names changed : List (List ℕ)) (name : List ℕ) → meets names (changed ++ name ∷ []) ≡ (meets names changed || has_name name names)
meets_more [] changed name = refl
meets_more (n ∷ names) changed name =
    ap (λ b. b || meets names (changed ++ name ∷ [])) (list_any-append (bytes_eq n) changed (name ∷ []))
    ∙ ap (λ b. (has_name n changed || (bytes_eq n name || false)) || b) (meets_more names changed name)
    ∙ either (has_name n changed) (bytes_eq n name) (meets names changed) (has_name name names)
    ∙ ap (λ b. (has_name n changed || meets names changed) || (b || has_name name names)) (nat_list_eq_equiv.symm n name)

-- names that are put behind a lower one
behind_first : (first : List ℕ) (more names : List (List ℕ)) → All (λ n. path_cmp n first ≡ Greater) more → with_names more (first ∷ names) ≡ first ∷ with_names more names
behind_first first [] names above = refl
behind_first first (n ∷ more) names above =
    rw (All-head (λ n. path_cmp n first ≡ Greater) n more above) (behind_first first more (with_name n names) (All-tail (λ n. path_cmp n first ≡ Greater) n more above))

-- the users of a name, put among those that need a changed name
dirty_with : (name : List ℕ) (changed : List (List ℕ)) (dependents : List Dependent) → AreRising path_of dependents → with_names (users_of name dependents) (dirty_of changed dependents) ≡ dirty_of (changed ++ name ∷ []) dependents
dirty_with name changed [] order = refl
dirty_with name changed (dependent ∷ dependents) order =
    go (has_name name dependent.names) (meets dependent.names changed) (dirty_with name changed dependents (rest path_of dependent dependents order))
    ∙ ap (λ b. map path_of (if b then dependent ∷ all else all)) (sym (meets_more dependent.names changed name))
  where
    uses : Dependent → Bool
    uses other = has_name name other.names

    meet : Dependent → Bool
    meet other = meets other.names changed

    users : List Dependent
    users = filter uses dependents

    dirty : List Dependent
    dirty = filter meet dependents

    all : List Dependent
    all = filter (λ (other : Dependent). meets other.names (changed ++ name ∷ [])) dependents

    above : (p : Dependent → Bool) → All (λ n. path_cmp n dependent.path ≡ Greater) (map path_of (filter p dependents))
    above p = All-map (λ n. path_cmp n dependent.path ≡ Greater) path_of (filter p dependents)
        (All-weaker (IsBelow path_of dependent) (λ (other : Dependent). path_cmp other.path dependent.path ≡ Greater) (λ other below. above_from_below dependent.path other.path below) (filter p dependents)
        (All-filter p (IsBelow path_of dependent) dependents (later path_of dependent dependents order)))

    go : (h m : Bool) → with_names (map path_of users) (map path_of dirty) ≡ map path_of all
        → with_names (map path_of (if h then dependent ∷ users else users)) (map path_of (if m then dependent ∷ dirty else dirty)) ≡ map path_of (if (m || h) then dependent ∷ all else all)
    go true true more = put_again ∙ behind_first dependent.path (map path_of users) (map path_of dirty) (above uses) ∙ ap (λ l. dependent.path ∷ l) more
      where
        put_again : with_names (dependent.path ∷ map path_of users) (dependent.path ∷ map path_of dirty) ≡ with_names (map path_of users) (dependent.path ∷ map path_of dirty)
        put_again =
            ap (λ o. with_names (map path_of users) (match_ordering o (dependent.path ∷ dependent.path ∷ map path_of dirty) (dependent.path ∷ map path_of dirty) (dependent.path ∷ with_name dependent.path (map path_of dirty))))
            (tied_itself nat_list_cmp_total dependent.path)
    go true false more =
        ap (with_names (map path_of users)) (with_higher dependent.path (map path_of dirty) (above meet))
        ∙ behind_first dependent.path (map path_of users) (map path_of dirty) (above uses) ∙ ap (λ l. dependent.path ∷ l) more
    go false true more = behind_first dependent.path (map path_of users) (map path_of dirty) (above uses) ∙ ap (λ l. dependent.path ∷ l) more
    go false false more = more

-- the users of one changed name more
pub dirty_more : (changed : List (List ℕ)) (i : ℕ) (name : List ℕ) (dependents : List Dependent) (paths next : List (List ℕ)) → AreRising path_of dependents → i < length changed → name ≡ get_or changed i name
    → paths ≡ dirty_of (take i changed) dependents → next ≡ with_names (users_of name dependents) paths → next ≡ dirty_of (take (i + 1) changed) dependents
dirty_more changed i name dependents paths next order within read sofar is =
    is ∙ ap (with_names (users_of name dependents)) sofar ∙ dirty_with name (take i changed) dependents order
    ∙ sym (ap (λ l. dirty_of l dependents) (take_more changed i name within ∙ ap (λ n. take i changed ++ n ∷ []) (sym read)))

-- names that are put one after the other
pub with_more : (more : List (List ℕ)) (i : ℕ) (name : List ℕ) (names next : List (List ℕ)) → i < length more → name ≡ get_or more i name → next ≡ with_name name names → with_names (drop (i + 1) more) next ≡ with_names (drop i more) names
with_more more i name names next within read is =
    ap (with_names (drop (i + 1) more)) (is ∙ ap (λ n. with_name n names) read) ∙ sym (ap (λ left. with_names left names) (drop_more more i name within))
