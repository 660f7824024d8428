-- The paths that need a name, once a path needs other names.
use Rattle.std.proofs.Common.{◌≡◌, ℕ, Bool, true, false, not, List, [], ◌∷◌, ◌++◌, map, filter, Option, Some, None, Result, Ok, Err, refl, sym, ap, subst, ◌∙◌, if◌then◌else◌}
use Rattle.std.specs.Prelude.{◌||◌, ◌&&◌, is_some}
use Rattle.std.specs.Cmp.Lexicographic.{same_text}
use Rattle.std.specs.List.{All, AllByRecursion}
use Rattle.std.specs.List.Sorted.{IsStrictlySortedBy}
use Rattle.std.specs.Ordering.{match_ordering}
use Rattle.std.specs.Str.{bytes_eq}
use Rattle.std.specs.declared.cmp.Ordering.{Ordering}
use Rattle.std.specs.declared.cmp.Ordering.TheVariants.{Less, Equal, Greater}
use Rattle.std.proofs.lemmas.Cmp.{nat_list_cmp_total, nat_list_eq_equiv}
use Rattle.std.proofs.lemmas.List.{map-append}
use Rattle.std.proofs.lemmas.List.Elements.{All-filter, All-map, filter-append}
use Rattle.pg_text.specs.Names.{AreInOrder, has_name, with_name, without_name}
use Rattle.pg_text.specs.Order.{AreRising, IsPlace, IsSplit, item_at, path_cmp, with_item, without_item}
use Rattle.pg_text.proofs.ItemLemmas.{keep, kept_at, names_of_some}
use Rattle.pg_text.proofs.NameLemmas.{put_twice, with_higher, with_lower}
use Rattle.pg_text.proofs.OrderLemmas.{eq_tested}
use Rattle.pg_text.proofs.PlaceLemmas.{with_split, without_split}
use Rattle.dep_graph.specs.declared.entries.Dependent.{Dependent}
use Rattle.dep_graph.specs.Deps.{IsNew, names_at, path_of, users_of}

-- the paths, with this one where the answer is yes
abbrev pub added : Bool → List ℕ → List (List ℕ) → List (List ℕ)
added true path paths = with_name path paths
added false path paths = paths

-- the paths, without this one where the answer is yes
abbrev pub dropped : Bool → List ℕ → List (List ℕ) → List (List ℕ)
dropped true path paths = without_name path paths
dropped false path paths = paths

pub added_twice : (a b : Bool) (path : List ℕ) (paths : List (List ℕ)) → added b path (added a path paths) ≡ added (a || b) path paths
added_twice true true path paths = put_twice path paths
added_twice true false path paths = refl
added_twice false b path paths = refl

-- a path that isn't among the paths

both_false : (a b : Bool) → (a || b) ≡ false → (a ≡ false) × (b ≡ false)
both_false true b is = absurd (cc)
both_false false b is = (refl, is)

absent_stays : (path : List ℕ) (paths : List (List ℕ)) → has_name path paths ≡ false → without_name path paths ≡ paths
absent_stays path [] none = refl
absent_stays path (other ∷ paths) none =
    let parts = both_false (bytes_eq path other) (has_name path paths) none in
    rw (nat_list_eq_equiv.symm other path ∙ parts.0) (ap (λ l. other ∷ l) (absent_stays path paths parts.1))

gone : (path : List ℕ) (paths : List (List ℕ)) → has_name path (without_name path paths) ≡ false
gone path [] = refl
gone path (other ∷ paths) = go (bytes_eq other path) refl (gone path paths)
  where
    go : (b : Bool) → bytes_eq other path ≡ b → has_name path (without_name path paths) ≡ false → has_name path (if not b then other ∷ without_name path paths else without_name path paths) ≡ false
    go true is more = more
    go false is more = rw (nat_list_eq_equiv.symm path other ∙ is) more

pub dropped_twice : (a b : Bool) (path : List ℕ) (paths : List (List ℕ)) → dropped b path (dropped a path paths) ≡ dropped (a || b) path paths
dropped_twice true true path paths = absent_stays path (without_name path paths) (gone path paths)
dropped_twice true false path paths = refl
dropped_twice false b path paths = refl

-- a path that is put among others is taken out again
pub taken_back : (b : Bool) (path : List ℕ) (paths : List (List ℕ)) → (b ≡ true → has_name path paths ≡ false) → dropped b path (added b path paths) ≡ paths
taken_back false path paths new = refl
taken_back true path paths new = without_with paths ∙ absent_stays path paths (new refl)
  where
    without_with : (paths : List (List ℕ)) → without_name path (with_name path paths) ≡ without_name path paths
    without_with [] = rw (nat_list_eq_equiv.refl path) refl
    without_with (other ∷ paths) = go (path_cmp path other) (without_with paths)
      where
        go : (o : Ordering) → without_name path (with_name path paths) ≡ without_name path paths
            → without_name path (match_ordering o (path ∷ other ∷ paths) (other ∷ paths) (other ∷ with_name path paths)) ≡ without_name path (other ∷ paths)
        go Less more = rw (nat_list_eq_equiv.refl path) refl
        go Equal more = refl
        go Greater more = ap (λ l. if not (bytes_eq other path) then other ∷ l else l) more

-- a path of some in order, taken out and put back

IsBelowAll : List ℕ → List (List ℕ) → Type 0
IsBelowAll path paths = AllByRecursion (λ other. path_cmp path other ≡ Less) paths

lower_all : (path other : List ℕ) (paths : List (List ℕ)) → path_cmp path other ≡ Less → AllByRecursion (λ p. path_cmp other p ≡ Less) paths → AllByRecursion (λ p. path_cmp path p ≡ Less) paths
lower_all path other [] below all = tt
lower_all path other (p ∷ paths) below all = (nat_list_cmp_total.trans path other p below all.0, lower_all path other paths below all.1)

absent_below : (path : List ℕ) (paths : List (List ℕ)) → AllByRecursion (λ p. path_cmp path p ≡ Less) paths → has_name path paths ≡ false
absent_below path [] all = refl
absent_below path (p ∷ paths) all = rw (eq_tested path p Less all.0) (absent_below path paths all.1)

put_below : (path : List ℕ) (paths : List (List ℕ)) → AllByRecursion (λ p. path_cmp path p ≡ Less) paths → with_name path paths ≡ path ∷ paths
put_below path [] all = refl
put_below path (p ∷ paths) all = rw all.0 refl

put_back : (path : List ℕ) (paths : List (List ℕ)) → AreInOrder paths → has_name path paths ≡ true → with_name path (without_name path paths) ≡ paths
unfolding IsStrictlySortedBy
put_back path [] sorted there = absurd (cc)
put_back path (p ∷ paths) sorted there = go (path_cmp path p) refl (λ more. put_back path paths sorted.1 more)
  where
    here : with_name p (without_name p (p ∷ paths)) ≡ p ∷ paths
    here = rw (nat_list_eq_equiv.refl p) (ap (with_name p) (absent_stays p paths (absent_below p paths sorted.0)) ∙ put_below p paths sorted.0)

    go : (o : Ordering) → path_cmp path p ≡ o → (has_name path paths ≡ true → with_name path (without_name path paths) ≡ paths) → with_name path (without_name path (p ∷ paths)) ≡ p ∷ paths
    go Less is more = let none = absent_below path (p ∷ paths) (is, lower_all path p paths is sorted.0) in absurd (cc)
    go Equal is more = subst (λ q. with_name q (without_name q (p ∷ paths)) ≡ p ∷ paths) (sym (same_text path p (sym (eq_tested path p Equal is)))) here
    go Greater is more =
        let other : bytes_eq path p ≡ false = eq_tested path p Greater is in
        let later : has_name path paths ≡ true = subst (λ b. (b || has_name path paths) ≡ true) other there in
        rw (nat_list_eq_equiv.symm p path ∙ other, is) (ap (λ l. p ∷ l) (more later))

-- whether a path needs a name

found_there : (path : List ℕ) (dependents : List Dependent) → has_name path (map path_of dependents) ≡ is_some (item_at path_of path dependents)
found_there path [] = refl
found_there path (dependent ∷ dependents) = ap (λ b. b || has_name path (map path_of dependents)) (nat_list_eq_equiv.symm path dependent.path) ∙ go (bytes_eq dependent.path path) (found_there path dependents)
  where
    go : (b : Bool) → has_name path (map path_of dependents) ≡ is_some (item_at path_of path dependents)
        → (b || has_name path (map path_of dependents)) ≡ is_some (if b then Some dependent else item_at path_of path dependents)
    go true more = refl
    go false more = more

-- a path is among the users of a name where the name is among its own
pub uses_is : (path name : List ℕ) (dependents : List Dependent) → AreRising path_of dependents → has_name path (users_of name dependents) ≡ has_name name (names_at (item_at path_of path dependents))
uses_is path name dependents order =
    found_there path (filter uses dependents) ∙ ap is_some (kept_at path_of uses path dependents order) ∙ go (item_at path_of path dependents)
  where
    uses : Dependent → Bool
    uses dependent = has_name name dependent.names

    some_if : (b : Bool) (dependent : Dependent) → is_some (if b then Some dependent else None) ≡ b
    some_if true dependent = refl
    some_if false dependent = refl

    go : (found : Option Dependent) → is_some (keep path_of uses found) ≡ has_name name (names_at found)
    go None = refl
    go (Some dependent) = some_if (has_name name dependent.names) dependent

-- a path that needs nothing any more

module _ (path name : List ℕ) where
  -- one dependent more, which has the path or another one, and needs the name or doesn't
  unused_more : (has_path needs : Bool) (dependent : Dependent) (others users : List Dependent) → bytes_eq dependent.path path ≡ has_path → has_name name dependent.names ≡ needs
      → users_of name others ≡ without_name path (map path_of users)
      → users_of name (if not has_path then dependent ∷ others else others) ≡ without_name path (map path_of (if needs then dependent ∷ users else users))
  unused_more true true dependent others users same uses more = rw same more
  unused_more true false dependent others users same uses more = more
  unused_more false true dependent others users other uses more = rw (uses, other) (ap (λ l. dependent.path ∷ l) more)
  unused_more false false dependent others users other uses more = rw uses more

  pub unused : (dependents : List Dependent) → users_of name (without_item path_of path dependents) ≡ without_name path (users_of name dependents)
  unused [] = refl
  unused (dependent ∷ dependents) =
      unused_more (bytes_eq dependent.path path) (has_name name dependent.names) dependent (without_item path_of path dependents) (filter (λ (other : Dependent). has_name name other.names) dependents) refl refl (unused dependents)

  -- it is taken from the users of its own names
  pub removed : (dependent : Dependent) (dependents : List Dependent) → AreRising path_of dependents → item_at path_of path dependents ≡ Some dependent
      → dropped (has_name name dependent.names) path (users_of name dependents) ≡ users_of name (without_item path_of path dependents)
  removed dependent dependents order found =
      go (has_name name dependent.names) (uses_is path name dependents order ∙ ap (λ f. has_name name (names_at f)) found) ∙ sym (unused dependents)
    where
      go : (b : Bool) → has_name path (users_of name dependents) ≡ b → dropped b path (users_of name dependents) ≡ without_name path (users_of name dependents)
      go true is = refl
      go false is = sym (absent_stays path (users_of name dependents) is)

-- a path that needs other names

module _ (dependent : Dependent) (dependents : List Dependent) (name : List ℕ) where
  -- the users among some dependents, those with one more behind others, and those of the lower and the higher ones
  behind : (low high : List (List ℕ)) → All (λ n. path_cmp n dependent.path ≡ Less) low → All (λ n. path_cmp n dependent.path ≡ Greater) high
      → (b : Bool) (higher : List Dependent) → map path_of higher ≡ high → low ++ map path_of (if b then dependent ∷ higher else higher) ≡ added b dependent.path (low ++ high)
  behind low high all_low all_high true higher is =
      sym (with_lower dependent.path low high all_low ∙ ap (λ l. low ++ l) (with_higher dependent.path high all_high ∙ ap (λ l. dependent.path ∷ l) (sym is)))
  behind low high all_low all_high false higher is = ap (λ l. low ++ l) is

  users_split : (lower same higher : List Dependent) → IsSplit path_of dependent.path dependents lower same higher
      → users_of name (with_item path_of dependent dependents) ≡ added (has_name name dependent.names) dependent.path (users_of name (without_item path_of dependent.path dependents))
  users_split lower same higher split =
      let h : Dependent → Bool = λ other. has_name name other.names in
      let low : List (List ℕ) = map path_of (filter h lower) in
      let high : List (List ℕ) = map path_of (filter h higher) in
      let all_low : All (λ n. path_cmp n dependent.path ≡ Less) low = All-map (λ n. path_cmp n dependent.path ≡ Less) path_of (filter h lower) (All-filter h (λ other. path_cmp other.path dependent.path ≡ Less) lower split.below) in
      let all_high : All (λ n. path_cmp n dependent.path ≡ Greater) high = All-map (λ n. path_cmp n dependent.path ≡ Greater) path_of (filter h higher) (All-filter h (λ other. path_cmp other.path dependent.path ≡ Greater) higher split.above) in
      let parts : (more : List Dependent) → users_of name (lower ++ more) ≡ low ++ users_of name more = λ more. ap (map path_of) (filter-append h lower more) ∙ map-append path_of (filter h lower) (filter h more) in
      ap (users_of name) (with_split path_of dependent dependents lower same higher split) ∙ parts (dependent ∷ higher)
      ∙ behind low high all_low all_high (has_name name dependent.names) (filter h higher) refl
      ∙ ap (added (has_name name dependent.names) dependent.path) (sym (ap (users_of name) (without_split path_of dependent.path dependents lower same higher split) ∙ parts higher))

  users_placed : (place : Result ℕ ℕ) → IsPlace path_of dependent.path dependents place
      → users_of name (with_item path_of dependent dependents) ≡ added (has_name name dependent.names) dependent.path (users_of name (without_item path_of dependent.path dependents))
  users_placed (Ok at) place = users_split _ _ _ place.1
  users_placed (Err at) place = users_split _ _ _ place.1

-- a name is among those of some that aren't among others
pub has_besides : (name : List ℕ) (names others : List (List ℕ)) → has_name name (filter (λ n. not (has_name n others)) names) ≡ (has_name name names && not (has_name name others))
has_besides name [] others = refl
has_besides name (n ∷ names) others = go (bytes_eq name n) refl (not (has_name n others)) refl (has_besides name names others)
  where
    left : List (List ℕ)
    left = filter (λ n. not (has_name n others)) names

    go : (e : Bool) → bytes_eq name n ≡ e → (k : Bool) → not (has_name n others) ≡ k → has_name name left ≡ (has_name name names && not (has_name name others))
        → has_name name (if k then n ∷ left else left) ≡ ((e || has_name name names) && not (has_name name others))
    go true same true stays more = rw same (sym (ap (λ q. not (has_name q others)) (same_text name n (sym same)) ∙ stays))
    go true same false goes more = let none : not (has_name name others) ≡ false = ap (λ q. not (has_name q others)) (same_text name n (sym same)) ∙ goes in more ∙ rw none (and_false (has_name name names))
      where
        and_false : (b : Bool) → (b && false) ≡ false
        and_false true = refl
        and_false false = refl
    go false other true stays more = rw other more
    go false other false goes more = more

-- the names that a path didn't need before don't have it among their users
pub fresh_new : (path : List ℕ) (dependents : List Dependent) → AreRising path_of dependents → (names before : List (List ℕ)) → before ≡ names_at (item_at path_of path dependents)
    → IsNew path (filter (λ n. not (has_name n before)) names) (λ name. users_of name dependents)
fresh_new path dependents order names before is name there =
    uses_is path name dependents order ∙ ap (has_name name) (sym is) ∙ not_before (has_name name names) (has_name name before) (sym (has_besides name names before) ∙ there)
  where
    not_before : (a b : Bool) → (a && not b) ≡ true → b ≡ false
    not_before true true both = sym both
    not_before true false both = refl
    not_before false b both = absurd (cc)

-- the path is put among the users of its new names and taken from those of the names that it doesn't need any more
pub replaced : (dependent : Dependent) (dependents : List Dependent) (place : Result ℕ ℕ) → IsPlace path_of dependent.path dependents place → AreRising path_of dependents
    → (before : List (List ℕ)) → before ≡ names_at (item_at path_of dependent.path dependents) → (name : List ℕ)
    → dropped (has_name name (filter (λ n. not (has_name n dependent.names)) before)) dependent.path
    (added (has_name name (filter (λ n. not (has_name n before)) dependent.names)) dependent.path (users_of name dependents))
    ≡ users_of name (with_item path_of dependent dependents)
replaced dependent dependents place placed order before is name =
    rw (has_besides name before dependent.names, has_besides name dependent.names before)
    (go (has_name name dependent.names) (has_name name before) (uses_is dependent.path name dependents order ∙ ap (has_name name) (sym is))
    ∙ sym (users_placed dependent dependents name place placed ∙ ap (added (has_name name dependent.names) dependent.path) (unused dependent.path name dependents)))
  where
    users : List (List ℕ)
    users = users_of name dependents

    go : (a b : Bool) → has_name dependent.path users ≡ b → dropped (b && not a) dependent.path (added (a && not b) dependent.path users) ≡ added a dependent.path (without_name dependent.path users)
    go true true uses = sym (put_back dependent.path users (names_of_some path_of (λ (other : Dependent). has_name name other.names) dependents order) uses)
    go true false uses = ap (with_name dependent.path) (sym (absent_stays dependent.path users uses))
    go false true uses = refl
    go false false uses = sym (absent_stays dependent.path users uses)
