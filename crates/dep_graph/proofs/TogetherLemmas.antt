-- An index tells who needs a name, once many paths need nothing.
use Rattle.std.proofs.Common.{◌≡◌, ◌<◌, ℕ, Bool, true, false, not, List, [], ◌∷◌, ◌++◌, length, get_or, map, filter, take, drop, set, zero, suc, Option, Some, None, option_map, refl, sym, ap, ◌∙◌, if◌then◌else◌, arith}
use Rattle.std.specs.Prelude.{◌==◌}
use Rattle.std.proofs.lemmas.Bool.Decides.{nat_tests}
use Rattle.std.proofs.lemmas.List.Kept.{AllPairs-filter}
use Rattle.pg_text.specs.Names.{has_name}
use Rattle.pg_text.specs.Order.{AreRising, item_at}
use Rattle.pg_text.proofs.ItemLemmas.{IsBelow, changed_at, changed_order, keep, kept_at}
use Rattle.dep_graph.specs.declared.entries.Dependent.{Dependent}
use Rattle.dep_graph.specs.declared.entries.Named.{Named}
use Rattle.dep_graph.specs.Deps.{IsIndexOf, has_some, is_used, let_go, name_of, path_of, some_paths, unindexed, users_of, without_paths}

pub used_is : (paths : List (List ℕ)) → not (length paths == 0) ≡ has_some paths
used_is [] = refl
used_is (path ∷ paths) = let few : (length (path ∷ paths) == 0) ≡ false = grind (arith, nat_tests) in ap not few

-- items that are changed one after the other
pub walked : {A : Type 0} (f : A → A) (xs ys : List A) (i n : ℕ) (y z : A) → n ≡ suc i → i < length xs → ys ≡ map f (take i xs) ++ drop i xs → y ≡ get_or ys i y → z ≡ f y → set ys i z ≡ map f (take n xs) ++ drop n xs
walked {A} f xs ys i n y z next within sofar read is =
    ap (λ l. set l i z) sofar ∙ go xs i within (read ∙ ap (λ l. get_or l i y) sofar) ∙ ap (λ k. map f (take k xs) ++ drop k xs) (sym next)
  where
    go : (xs : List A) (i : ℕ) → i < length xs → y ≡ get_or (map f (take i xs) ++ drop i xs) i y → set (map f (take i xs) ++ drop i xs) i z ≡ map f (take (suc i) xs) ++ drop (suc i) xs
    go [] i within read = absurd (omega arith)
    go (x ∷ xs) zero within read = ap (λ w. w ∷ xs) (is ∙ ap f read)
    go (x ∷ xs) (suc i) within read = ap (λ l. f x ∷ l) (go xs i (omega arith) read)

module _ (paths : List (List ℕ)) (name : List ℕ) where
  abbrev left : List (List ℕ) → List (List ℕ)
  left users = filter (λ user. not (has_name user paths)) users

  -- one dependent more, which is one of the paths or isn't, and needs the name or doesn't
  unused_more : (out needs : Bool) (dependent : Dependent) (others users : List Dependent) → has_name dependent.path paths ≡ out → has_name name dependent.names ≡ needs
      → users_of name others ≡ left (map path_of users)
      → users_of name (if not out then dependent ∷ others else others) ≡ left (map path_of (if needs then dependent ∷ users else users))
  unused_more true true dependent others users gone uses more = rw gone more
  unused_more true false dependent others users gone uses more = more
  unused_more false true dependent others users stays uses more = rw (uses, stays) (ap (λ l. dependent.path ∷ l) more)
  unused_more false false dependent others users stays uses more = rw uses more

  unused : (dependents : List Dependent) → users_of name (without_paths paths dependents) ≡ left (users_of name dependents)
  unused [] = refl
  unused (dependent ∷ dependents) =
      unused_more (has_name dependent.path paths) (has_name name dependent.names) dependent (without_paths paths dependents) (filter (λ (other : Dependent). has_name name other.names) dependents) refl refl (unused dependents)

  some : (kept : List ℕ) (users : List (List ℕ)) → option_map (λ (named : Named). named.users) (if has_some users then Some (record { name = kept; users = users }) else None) ≡ some_paths users
  some kept [] = refl
  some kept (first ∷ users) = refl

  left_told : (found : Option Named) (users : List (List ℕ)) → option_map (λ (named : Named). named.users) found ≡ some_paths users
      → option_map (λ (named : Named). named.users) (keep name_of is_used (option_map (let_go paths) found)) ≡ some_paths (left users)
  left_told None [] is = refl
  left_told None (user ∷ users) is = absurd (cc)
  left_told (Some named) [] is = absurd (cc)
  left_told (Some named) (user ∷ users) is =
      let same : named.users ≡ user ∷ users = cc in
      some named.name (left named.users) ∙ ap (λ l. some_paths (left l)) same

pub unindexed_is : (paths : List (List ℕ)) (dependents : List Dependent) (index : List Named) → AreRising name_of index → IsIndexOf dependents index → IsIndexOf (without_paths paths dependents) (unindexed paths index)
unindexed_is paths dependents index order is = λ name.
    ap (option_map (λ (named : Named). named.users))
    (kept_at name_of is_used name (map (let_go paths) index) (changed_order name_of (let_go paths) (λ named. refl) index order) ∙ ap (keep name_of is_used) (changed_at name_of (let_go paths) (λ named. refl) name index))
    ∙ left_told paths name (item_at name_of name index) (users_of name dependents) (is name)
    ∙ ap some_paths (sym (unused paths name dependents))

pub unindexed_order : (paths : List (List ℕ)) (index : List Named) → AreRising name_of index → AreRising name_of (unindexed paths index)
unindexed_order paths index order = AllPairs-filter (IsBelow name_of) is_used (map (let_go paths) index) (changed_order name_of (let_go paths) (λ named. refl) index order)
