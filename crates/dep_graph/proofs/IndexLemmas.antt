-- An index tells who needs a name, once a path needs more names or fewer.
use Rattle.std.proofs.Common.{◌≡◌, ◌<◌, ℕ, ◌+◌, Bool, true, false, List, [], ◌∷◌, ◌++◌, length, get_or, take, drop, set, zero, suc, Option, Some, None, option_map, Result, Ok, Err, refl, sym, ap, ◌∙◌, if◌then◌else◌, arith}
use Rattle.std.specs.Prelude.{◌||◌, ◌==◌}
use Rattle.std.specs.Cmp.Lexicographic.{same_text}
use Rattle.std.specs.List.{insert, remove}
use Rattle.std.specs.Ordering.{match_ordering}
use Rattle.std.specs.Result.{OnOk, is_err}
use Rattle.std.specs.Str.{bytes_eq}
use Rattle.std.specs.declared.cmp.Ordering.{Ordering}
use Rattle.std.specs.declared.cmp.Ordering.TheVariants.{Less, Equal, Greater}
use Rattle.std.proofs.lemmas.Bool.Decides.{nat_tests}
use Rattle.std.proofs.lemmas.Cmp.{nat_list_eq_equiv}
use Rattle.std.proofs.lemmas.List.{drop_more, take_more}
use Rattle.std.proofs.lemmas.List.Kept.{AllPairs-filter}
use Rattle.pg_text.specs.Names.{has_name, with_name, without_name}
use Rattle.pg_text.specs.Order.{AreRising, IsPlace, item_at, path_cmp, with_item}
use Rattle.pg_text.proofs.ItemLemmas.{IsBelow, at_with, at_without, order_with}
use Rattle.pg_text.proofs.PlaceLemmas.{item_absent, item_found, with_absent, with_found, without_absent, without_found}
use Rattle.dep_graph.specs.declared.entries.Named.{Named}
use Rattle.dep_graph.specs.Deps.{IsNew, Tells, all_indexed, all_unlisted, indexed, kept_for, name_of, relisted, some_paths, unlisted}
use Rattle.dep_graph.proofs.UserLemmas.{added, added_twice, dropped, dropped_twice, taken_back}

-- the users that an index tells of a name
abbrev told : List ℕ → List Named → Option (List (List ℕ))
told name index = option_map (λ (named : Named). named.users) (item_at name_of name index)

kept_is : (found : Option Named) (users : List (List ℕ)) → option_map (λ (named : Named). named.users) found ≡ some_paths users → kept_for found ≡ users
kept_is None [] is = refl
kept_is None (user ∷ users) is = absurd (cc)
kept_is (Some named) [] is = absurd (cc)
kept_is (Some named) (user ∷ users) is = cc

some_with : (path : List ℕ) (paths : List (List ℕ)) → Some (with_name path paths) ≡ some_paths (with_name path paths)
some_with path [] = refl
some_with path (first ∷ paths) = go (path_cmp path first)
  where
    go : (o : Ordering) → Some (match_ordering o (path ∷ first ∷ paths) (first ∷ paths) (first ∷ with_name path paths)) ≡ some_paths (match_ordering o (path ∷ first ∷ paths) (first ∷ paths) (first ∷ with_name path paths))
    go Less = refl
    go Equal = refl
    go Greater = refl

-- a path that needs more names

indexed_is : (path name : List ℕ) (index : List Named) (users : List ℕ → List (List ℕ)) → Tells index users → Tells (indexed path name index) (λ other. added (bytes_eq other name) path (users other))
indexed_is path name index users is other =
    let item : Named = record { name = name; users = with_name path (kept_for (item_at name_of name index)) } in
    ap (option_map (λ (named : Named). named.users)) (at_with name_of item other index) ∙ go (bytes_eq name other) refl
    ∙ ap (λ b. some_paths (added b path (users other))) (nat_list_eq_equiv.symm name other)
  where
    go : (b : Bool) → bytes_eq name other ≡ b
        → option_map (λ (named : Named). named.users) (if b then Some (record { name = name; users = with_name path (kept_for (item_at name_of name index)) }) else item_at name_of other index) ≡ some_paths (added b path (users other))
    go true same =
        let here = kept_is (item_at name_of name index) (users name) (is name) ∙ ap users (same_text name other (sym same)) in
        ap (λ l. Some (with_name path l)) here ∙ some_with path (users other)
    go false away = is other

pub all_indexed_is : (path : List ℕ) (names : List (List ℕ)) (index : List Named) (users : List ℕ → List (List ℕ)) → Tells index users → Tells (all_indexed path names index) (λ other. added (has_name other names) path (users other))
all_indexed_is path [] index users is other = is other
all_indexed_is path (name ∷ names) index users is other =
    all_indexed_is path names (indexed path name index) (λ o. added (bytes_eq o name) path (users o)) (indexed_is path name index users is) other
    ∙ ap some_paths (added_twice (bytes_eq other name) (has_name other names) path (users other))

pub indexed_order : (path name : List ℕ) (index : List Named) → AreRising name_of index → AreRising name_of (indexed path name index)
indexed_order path name index order = order_with name_of _ index order

-- a path that needs fewer names

unlisted_is : (path name : List ℕ) (index : List Named) (users : List ℕ → List (List ℕ)) → Tells index users → Tells (unlisted path name index) (λ other. dropped (bytes_eq other name) path (users other))
unlisted_is path name index users is other =
    go (without_name path (kept_for (item_at name_of name index))) (ap (without_name path) (kept_is (item_at name_of name index) (users name) (is name)))
    ∙ ap (λ b. some_paths (dropped b path (users other))) (nat_list_eq_equiv.symm name other)
  where
    here : (left : List (List ℕ)) → left ≡ without_name path (users name) → (found : Option Named) → option_map (λ (named : Named). named.users) found ≡ some_paths left → (b : Bool) → bytes_eq name other ≡ b
        → option_map (λ (named : Named). named.users) (if b then found else item_at name_of other index) ≡ some_paths (dropped b path (users other))
    here left of found tells true same = tells ∙ ap some_paths (of ∙ ap (λ n. without_name path (users n)) (same_text name other (sym same)))
    here left of found tells false away = is other

    go : (left : List (List ℕ)) → left ≡ without_name path (users name) → told other (relisted name left index) ≡ some_paths (dropped (bytes_eq name other) path (users other))
    go [] of = ap (option_map (λ (named : Named). named.users)) (at_without name_of name other index) ∙ here [] of None refl (bytes_eq name other) refl
    go (user ∷ left) of =
        let item : Named = record { name = name; users = user ∷ left } in
        ap (option_map (λ (named : Named). named.users)) (at_with name_of item other index) ∙ here (user ∷ left) of (Some item) refl (bytes_eq name other) refl

pub all_unlisted_is : (path : List ℕ) (names : List (List ℕ)) (index : List Named) (users : List ℕ → List (List ℕ)) → Tells index users → Tells (all_unlisted path names index) (λ other. dropped (has_name other names) path (users other))
all_unlisted_is path [] index users is other = is other
all_unlisted_is path (name ∷ names) index users is other =
    all_unlisted_is path names (unlisted path name index) (λ o. dropped (bytes_eq o name) path (users o)) (unlisted_is path name index users is) other
    ∙ ap some_paths (dropped_twice (bytes_eq other name) (has_name other names) path (users other))

pub unlisted_order : (path name : List ℕ) (index : List Named) → AreRising name_of index → AreRising name_of (unlisted path name index)
unlisted_order path name index order = go (without_name path (kept_for (item_at name_of name index)))
  where
    go : (left : List (List ℕ)) → AreRising name_of (relisted name left index)
    go [] = AllPairs-filter (IsBelow name_of) _ index order
    go (user ∷ left) = order_with name_of _ index order

-- the same index tells the same
pub retold : (index next : List Named) (users more : List ℕ → List (List ℕ)) → Tells index users → next ≡ index → ((name : List ℕ) → users name ≡ more name) → Tells next more
retold index next users more is same each name = ap (told name) same ∙ is name ∙ ap some_paths (each name)

-- names that a path needed for a while only
pub taken_out : (path : List ℕ) (names : List (List ℕ)) (index : List Named) (users : List ℕ → List (List ℕ)) → Tells index users → IsNew path names users → Tells (all_unlisted path names (all_indexed path names index)) users
taken_out path names index users is new other =
    all_unlisted_is path names (all_indexed path names index) (λ o. added (has_name o names) path (users o)) (all_indexed_is path names index users is) other
    ∙ ap some_paths (taken_back (has_name other names) path (users other) (new other))

-- what is ensured of a call that doesn't fail
pub done_where : {T E P : Type 0} (r : Result T E) → false ≡ is_err r → OnOk r P → P
done_where (Ok v) fine ensured = ensured
done_where (Err e) fails ensured = absurd (cc)

-- one name after the other

indexed_behind : (path : List ℕ) (names more : List (List ℕ)) (index : List Named) → all_indexed path (names ++ more) index ≡ all_indexed path more (all_indexed path names index)
indexed_behind path [] more index = refl
indexed_behind path (name ∷ names) more index = indexed_behind path names more (indexed path name index)

pub indexed_more : (path : List ℕ) (names : List (List ℕ)) (i : ℕ) (name : List ℕ) (index old next : List Named) → i < length names → name ≡ get_or names i name → index ≡ all_indexed path (take i names) old → next ≡ indexed path name index
    → next ≡ all_indexed path (take (i + 1) names) old
indexed_more path names i name index old next within read sofar is =
    is ∙ ap (indexed path name) sofar
    ∙ sym (ap (λ l. all_indexed path l old) (take_more names i name within ∙ ap (λ n. take i names ++ n ∷ []) (sym read)) ∙ indexed_behind path (take i names) (name ∷ []) old)

-- the names that are left make the same of the index after the next one
pub unlisted_more : (path : List ℕ) (names : List (List ℕ)) (i : ℕ) (name : List ℕ) (index next : List Named) → i < length names → name ≡ get_or names i name → next ≡ unlisted path name index
    → all_unlisted path (drop (i + 1) names) next ≡ all_unlisted path (drop i names) index
unlisted_more path names i name index next within read is =
    ap (all_unlisted path (drop (i + 1) names)) (is ∙ ap (λ n. unlisted path n index) read) ∙ sym (ap (λ left. all_unlisted path left index) (drop_more names i name within))

has_first : (name : List ℕ) (names : List (List ℕ)) (i : ℕ) → has_name name (take i names) ≡ true → has_name name names ≡ true
has_first name names zero there = absurd (cc)
has_first name [] (suc i) there = absurd (cc)
has_first name (n ∷ names) (suc i) there = go (bytes_eq name n) there (has_first name names i)
  where
    go : (b : Bool) → (b || has_name name (take i names)) ≡ true → (has_name name (take i names) ≡ true → has_name name names ≡ true) → (b || has_name name names) ≡ true
    go true is more = refl
    go false is more = more is

-- some of the first names, where all are new
pub new_first : (path : List ℕ) (names : List (List ℕ)) (i : ℕ) (users : List ℕ → List (List ℕ)) → IsNew path names users → IsNew path (take i names) users
new_first path names i users new name there = new name (has_first name names i there)

-- the place in an index where users are written, or a name is put or taken out

found_name : (name : List ℕ) (index : List Named) (item : Named) → item_at name_of name index ≡ Some item → item.name ≡ name
found_name name [] item found = absurd (cc)
found_name name (named ∷ index) item found = go (bytes_eq named.name name) refl found (found_name name index item)
  where
    go : (b : Bool) → bytes_eq named.name name ≡ b → (if b then Some named else item_at name_of name index) ≡ Some item → (item_at name_of name index ≡ Some item → item.name ≡ name) → item.name ≡ name
    go true same is more = let this : named ≡ item = cc in ap (λ (n : Named). n.name) (sym this) ∙ same_text named.name name (sym same)
    go false away is more = more is

remove_set : {A : Type 0} (xs : List A) (i : ℕ) (y : A) → remove (set xs i y) i ≡ remove xs i
remove_set [] i y = refl
remove_set (x ∷ xs) zero y = refl
remove_set (x ∷ xs) (suc i) y = ap (λ l. x ∷ l) (remove_set xs i y)

module _ (path name : List ℕ) (index : List Named) (at : ℕ) where
  pub add_absent : (item : Named) → IsPlace name_of name index (Err at) → item ≡ record { name = name; users = with_name path [] } → insert index at item ≡ indexed path name index
  add_absent item place is =
      let none : with_name path [] ≡ with_name path (kept_for (item_at name_of name index)) = ap (λ f. with_name path (kept_for f)) (sym (item_absent name_of name index at place)) in
      ap (insert index at) (is ∙ ap (λ (l : List (List ℕ)). record { name = name; users = l }) none) ∙ with_absent name_of (record { name = name; users = with_name path (kept_for (item_at name_of name index)) }) index at place

  module _ (item : Named) (place : IsPlace name_of name index (Ok at)) (read : item ≡ get_or index at item) where
    found : item_at name_of name index ≡ Some item
    found = item_found name_of name index at item place read

    pub add_found : (new : Named) → new ≡ record { name = item.name; users = with_name path item.users } → set index at new ≡ indexed path name index
    add_found new is =
        let as_kept : with_name path item.users ≡ with_name path (kept_for (item_at name_of name index)) = ap (λ f. with_name path (kept_for f)) (sym found) in
        ap (set index at) (is ∙ (λ i. record { name = found_name name index item found i; users = as_kept i }))
        ∙ with_found name_of (record { name = name; users = with_name path (kept_for (item_at name_of name index)) }) index at place

    pub drop_found : (new : Named) → new ≡ record { name = item.name; users = without_name path item.users } → (length new.users == 0) ≡ true → remove (set index at new) at ≡ unlisted path name index
    drop_found new is none = remove_set index at new ∙ without_found name_of name index at place ∙ ap (λ l. relisted name l index) (empty new.users none) ∙ ap (λ l. relisted name l index) (ap (λ (n : Named). n.users) is ∙ ap (λ f. without_name path (kept_for f)) (sym found))
      where
        empty : (users : List (List ℕ)) → (length users == 0) ≡ true → [] ≡ users
        empty [] none = refl
        empty (user ∷ users) none = let some : (length (user ∷ users) == 0) ≡ false = grind (arith, nat_tests) in absurd (cc)

    pub keep_found : (new : Named) → new ≡ record { name = item.name; users = without_name path item.users } → (length new.users == 0) ≡ false → set index at new ≡ unlisted path name index
    keep_found new is some =
        let same : new ≡ record { name = name; users = new.users } = λ i. record { name = (ap (λ (n : Named). n.name) is ∙ found_name name index item found) i; users = new.users } in
        ap (set index at) same ∙ with_found name_of (record { name = name; users = new.users }) index at place ∙ listed new.users some
        ∙ ap (λ l. relisted name l index) (ap (λ (n : Named). n.users) is ∙ ap (λ f. without_name path (kept_for f)) (sym found))
      where
        listed : (users : List (List ℕ)) → (length users == 0) ≡ false → with_item name_of (record { name = name; users = users }) index ≡ relisted name users index
        listed [] some = absurd (cc)
        listed (user ∷ users) some = refl

  pub drop_absent : IsPlace name_of name index (Err at) → index ≡ unlisted path name index
  drop_absent place = without_absent name_of name index at place ∙ ap (λ f. relisted name (without_name path (kept_for f)) index) (sym (item_absent name_of name index at place))
