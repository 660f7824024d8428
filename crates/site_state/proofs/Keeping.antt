-- What is kept is made from the latest tree, and its paths are the ready ones.
use Rattle.std.proofs.Common.{◌≡◌, ℕ, Bool, true, false, not, List, [], ◌∷◌, ◌++◌, map, filter, Some, None, refl, sym, ap, subst, ◌∙◌, if◌then◌else◌, arith}
use Rattle.std.specs.Prelude.{◌&&◌, ◌||◌, nat_eq}
use Rattle.std.specs.List.{AllByRecursion}
use Rattle.std.specs.List.Sorted.{IsStrictlySortedBy}
use Rattle.std.specs.Ordering.{is_lt, is_gt, match_ordering}
use Rattle.std.specs.declared.cmp.Ordering.{Ordering}
use Rattle.std.specs.declared.cmp.Ordering.TheVariants.{Less, Equal, Greater}
use Rattle.std.specs.Str.{bytes_eq}
use Rattle.std.proofs.lemmas.Bool.Decides.{nat_tests}
use Rattle.std.proofs.lemmas.Cmp.{nat_list_cmp_total}
use Rattle.pg_text.specs.Names.{AreInOrder, has_name, with_name}
use Rattle.pg_text.specs.Order.{item_at, path_cmp}
use Rattle.pg_text.proofs.Halving.{equal_names, turned}
use Rattle.source_tree.specs.declared.edit.Edit.{Edit}
use Rattle.source_tree.specs.declared.file.File.{File}
use Rattle.source_tree.specs.Changed.{changed}
use Rattle.source_tree.specs.Edits.{after_edits}
use Rattle.program_store.specs.Store.{clean_in, dirty_in, hit_of, is_dirty, kept_path, value_for, with_value}
use Rattle.source_tree.specs.declared.need.Need.{Need}
use Rattle.site_words.specs.declared.words.Reply.TheVariants as reply
use Rattle.site_words.specs.Ready.{clean_of, dirty_of}
use Rattle.site_words.specs.Trees.{Needs, OneHistory, agrees, meets}
use Rattle.site_words.proofs.Items.{each_both, each_filter}
use Rattle.site_words.proofs.OneHistory.{same_path}
use Rattle.site_words.proofs.StoreLaw.{agrees_after, unchanged}
use Rattle.site_state.specs.declared.gift.Done.{Done}
use Rattle.site_state.specs.declared.gift.Gift.{Gift}
use Rattle.site_state.specs.declared.gift.Gift.TheVariants.{Nothing, Start, Made, Id, Picture, Old}
use Rattle.site_state.specs.Gifts.{FitsFetch, IsMadeGift}
use Rattle.site_state.specs.ReadDone.{IsFound, IsGiftOf}
use Rattle.site_state.specs.Works.{AreKept}

-- the laws of what is kept
pub record Laws {P : Type 0} (needs : Needs) (made : P → List File → List ℕ → Type 0) (needed : P → List Need) : Type 0 where
  pub keeps : (value : P) (tree : List File) (path : List ℕ) → made value tree path → needed value ≡ needs tree path
  pub stand : (tree : List File) (path : List ℕ) → agrees (needs tree path) tree ≡ true
  pub agreeing : (value : P) (a b : List File) (path : List ℕ) → OneHistory a b → agrees (needs a path) b ≡ true → made value a path → made value b path

same_number : (a b : ℕ) → nat_eq a b ≡ nat_eq b a
same_number a b = grind (arith, nat_tests)

same_bytes : (a b : List ℕ) → bytes_eq a b ≡ bytes_eq b a
same_bytes [] [] = refl
same_bytes [] (y ∷ ys) = refl
same_bytes (x ∷ xs) [] = refl
same_bytes (x ∷ xs) (y ∷ ys) = ap (λ p. p && bytes_eq xs ys) (same_number x y) ∙ ap (λ q. nat_eq y x && q) (same_bytes xs ys)

-- the paths with one more

above_all : (path name : List ℕ) (names : List (List ℕ)) → path_cmp path name ≡ Less → AllByRecursion (λ m. path_cmp name m ≡ Less) names → AllByRecursion (λ m. path_cmp path m ≡ Less) names
above_all path name [] below above = tt
above_all path name (m ∷ names) below above = (nat_list_cmp_total.trans path name m below above.0, above_all path name names below above.1)

module _ {P : Type 0} where
  -- each path is above this one
  AreAbove : List ℕ → List (List ℕ × P) → Type 0
  AreAbove path kept = AllByRecursion (λ name. path_cmp path name ≡ Less) (map kept_path kept)

  none_below : (path : List ℕ) (kept : List (List ℕ × P)) → AreAbove path kept → filter (λ (k : List ℕ × P). is_lt (path_cmp k.0 path)) kept ≡ []
  unfolding AreAbove
  none_below path [] above = refl
  none_below path (k ∷ kept) above =
      ap (λ o. if is_lt o then k ∷ filter (λ (k : List ℕ × P). is_lt (path_cmp k.0 path)) kept else filter (λ (k : List ℕ × P). is_lt (path_cmp k.0 path)) kept) (turned path k.0 Less above.0) ∙ none_below path kept above.1

  all_above : (path : List ℕ) (kept : List (List ℕ × P)) → AreAbove path kept → filter (λ (k : List ℕ × P). is_gt (path_cmp k.0 path)) kept ≡ kept
  unfolding AreAbove
  all_above path [] above = refl
  all_above path (k ∷ kept) above =
      ap (λ o. if is_gt o then k ∷ filter (λ (k : List ℕ × P). is_gt (path_cmp k.0 path)) kept else filter (λ (k : List ℕ × P). is_gt (path_cmp k.0 path)) kept) (turned path k.0 Less above.0) ∙ ap (λ l. k ∷ l) (all_above path kept above.1)

  pub with_is : (path : List ℕ) (v : P) (kept : List (List ℕ × P)) → AreInOrder (map kept_path kept) → map kept_path (with_value path v kept) ≡ with_name path (map kept_path kept)
  unfolding IsStrictlySortedBy AreAbove
  with_is path v [] sorted = refl
  with_is path v (k ∷ kept) sorted = go (path_cmp k.0 path) refl (with_is path v kept sorted.1)
    where
      lower : List (List ℕ × P)
      lower = filter (λ (k : List ℕ × P). is_lt (path_cmp k.0 path)) kept

      higher : List (List ℕ × P)
      higher = filter (λ (k : List ℕ × P). is_gt (path_cmp k.0 path)) kept

      names : List (List ℕ)
      names = map kept_path kept

      go : (o : Ordering) → path_cmp k.0 path ≡ o → map kept_path (with_value path v kept) ≡ with_name path (map kept_path kept)
          → map kept_path ((if is_lt o then k ∷ filter (λ (k : List ℕ × P). is_lt (path_cmp k.0 path)) kept else filter (λ (k : List ℕ × P). is_lt (path_cmp k.0 path)) kept)
          ++ (path, v) ∷ (if is_gt o then k ∷ filter (λ (k : List ℕ × P). is_gt (path_cmp k.0 path)) kept else filter (λ (k : List ℕ × P). is_gt (path_cmp k.0 path)) kept))
          ≡ match_ordering (path_cmp path k.0) (path ∷ k.0 ∷ map kept_path kept) (k.0 ∷ map kept_path kept) (k.0 ∷ with_name path (map kept_path kept))
      go Less is more =
          ap (λ l. k.0 ∷ l) more
          ∙ sym (ap (λ o. match_ordering o (path ∷ k.0 ∷ map kept_path kept) (k.0 ∷ map kept_path kept) (k.0 ∷ with_name path (map kept_path kept))) (turned k.0 path Less is))
      go Equal is more =
          let same : k.0 ≡ path = equal_names k.0 path is in
          let above : AreAbove path kept = subst (λ p. AllByRecursion (λ m. path_cmp p m ≡ Less) (map kept_path kept)) same sorted.0 in
          ap (λ l. map kept_path (l ++ (path, v) ∷ filter (λ (k : List ℕ × P). is_gt (path_cmp k.0 path)) kept)) (none_below path kept above)
          ∙ (ap (λ l. path ∷ map kept_path l) (all_above path kept above)
          ∙ (ap (λ p. p ∷ map kept_path kept) (sym same)
          ∙ sym (ap (λ o. match_ordering o (path ∷ k.0 ∷ map kept_path kept) (k.0 ∷ map kept_path kept) (k.0 ∷ with_name path (map kept_path kept))) (turned k.0 path Equal is))))
      go Greater is more =
          let back : path_cmp path k.0 ≡ Less = turned k.0 path Greater is in
          let above : AreAbove path kept = above_all path k.0 (map kept_path kept) back sorted.0 in
          ap (λ l. map kept_path (l ++ (path, v) ∷ k ∷ filter (λ (k : List ℕ × P). is_gt (path_cmp k.0 path)) kept)) (none_below path kept above)
          ∙ (ap (λ l. path ∷ k.0 ∷ map kept_path l) (all_above path kept above)
          ∙ sym (ap (λ o. match_ordering o (path ∷ k.0 ∷ map kept_path kept) (k.0 ∷ map kept_path kept) (k.0 ∷ with_name path (map kept_path kept))) back))

module _ {P : Type 0} (made : P → List File → List ℕ → Type 0) where
  pub with_made : (tree : List File) (path : List ℕ) (v : P) (kept : List (List ℕ × P)) → made v tree path → AreKept made tree kept → AreKept made tree (with_value path v kept)
  with_made tree path v kept is all =
      let fits : List ℕ × P → Type 0 = λ k. made k.1 tree k.0 in
      each_both fits _ _ (each_filter fits (λ (k : List ℕ × P). is_lt (path_cmp k.0 path)) kept all) (is, each_filter fits (λ (k : List ℕ × P). is_gt (path_cmp k.0 path)) kept all)

module _ {P : Type 0} (needs : Needs) (made : P → List File → List ℕ → Type 0) (needed : P → List Need) (laws : Laws needs made needed) where
  -- the paths that are dirty are those of the definition
  pub dirty_is : (tree : List File) (names : List (List ℕ)) (kept : List (List ℕ × P)) → AreKept made tree kept → dirty_in needed names kept ≡ dirty_of needs tree names (map kept_path kept)
  dirty_is tree names [] all = refl
  dirty_is tree names (k ∷ kept) all = go (meets (needed k.1) names) (meets (needs tree k.0) names) (ap (λ (n : List Need). meets n names) (laws.keeps k.1 tree k.0 all.0)) (dirty_is tree names kept all.1)
    where
      go : (b c : Bool) → b ≡ c → dirty_in needed names kept ≡ dirty_of needs tree names (map kept_path kept)
          → map kept_path (if b then k ∷ filter (is_dirty needed names) kept else filter (is_dirty needed names) kept) ≡ (if c then k.0 ∷ dirty_of needs tree names (map kept_path kept) else dirty_of needs tree names (map kept_path kept))
      go true true same rest = ap (λ l. k.0 ∷ l) rest
      go false false same rest = rest
      go true false same rest = absurd (cc)
      go false true same rest = absurd (cc)

  -- and those that stay are the others
  pub clean_is : (tree : List File) (names : List (List ℕ)) (kept : List (List ℕ × P)) → AreKept made tree kept → map kept_path (clean_in needed names kept) ≡ clean_of needs tree names (map kept_path kept)
  clean_is tree names [] all = refl
  clean_is tree names (k ∷ kept) all = go (not (meets (needed k.1) names)) (not (meets (needs tree k.0) names)) (ap (λ (n : List Need). not (meets n names)) (laws.keeps k.1 tree k.0 all.0)) (clean_is tree names kept all.1)
    where
      go : (b c : Bool) → b ≡ c → map kept_path (clean_in needed names kept) ≡ clean_of needs tree names (map kept_path kept)
          → map kept_path (if b then k ∷ clean_in needed names kept else clean_in needed names kept) ≡ (if c then k.0 ∷ clean_of needs tree names (map kept_path kept) else clean_of needs tree names (map kept_path kept))
      go true true same rest = ap (λ l. k.0 ∷ l) rest
      go false false same rest = rest
      go true false same rest = absurd (cc)
      go false true same rest = absurd (cc)

  -- a publishing drops what needs a changed name, and the rest is made from the new tree
  pub clean_made : (old new : List File) (names : List (List ℕ)) (kept : List (List ℕ × P)) → OneHistory old new → ((path : List ℕ) → meets (needs old path) names ≡ false → agrees (needs old path) new ≡ true)
      → AreKept made old kept → AreKept made new (clean_in needed names kept)
  clean_made old new names [] one agree all = tt
  clean_made old new names (k ∷ kept) one agree all = go (meets (needed k.1) names) (ap (λ (n : List Need). meets n names) (sym (laws.keeps k.1 old k.0 all.0))) (clean_made old new names kept one agree all.1)
    where
      go : (b : Bool) → meets (needs old k.0) names ≡ b → AreKept made new (clean_in needed names kept) → AreKept made new (if not b then k ∷ clean_in needed names kept else clean_in needed names kept)
      go true is rest = rest
      go false is rest = (laws.agreeing k.1 old new k.0 one (agree k.0 is) all.0, rest)

  pub published_made : (old : List File) (stamp : ℕ) (edits : List Edit) (kept : List (List ℕ × P)) → OneHistory old (after_edits edits stamp old) → AreKept made old kept
      → AreKept made (after_edits edits stamp old) (clean_in needed (changed edits old) kept)
  published_made old stamp edits kept one all =
      clean_made old (after_edits edits stamp old) (changed edits old) kept one
      (λ path out. agrees_after (needs old path) (changed edits old) old (after_edits edits stamp old) out (laws.stand old path) (λ name absent. unchanged name stamp edits old old absent refl)) all

  -- a value that is found
  pub hit_is : (path : List ℕ) (tree latest : List File) (kept : List (List ℕ × P)) → AreKept made latest kept → OneHistory latest tree → (done : Done P) → IsFound (hit_of needed path tree kept) done
      → (done.reply ≡ reply.Fetched (has_name path (map kept_path kept) && agrees (needs latest path) tree)) × (done.given.reply ≡ done.reply) × FitsFetch made tree path done.given.reply done.given.gift
  hit_is path tree latest [] all one done is = (is.0, is.1 ∙ sym is.0, subst (λ r. FitsFetch made tree path r done.given.gift) (sym is.1) tt)
  hit_is path tree latest (k ∷ kept) all one done is = go (bytes_eq k.0 path) refl (λ is. hit_is path tree latest kept all.1 one done is) is
    where
      Result : Bool → Type 0
      Result b = (done.reply ≡ reply.Fetched (b && agrees (needs latest path) tree)) × (done.given.reply ≡ done.reply) × FitsFetch made tree path done.given.reply done.given.gift

      gift : (g : Gift P) → IsGiftOf k.1 g → made k.1 tree path → IsMadeGift made tree path g
      gift Nothing is m = absurd is
      gift (Start t a) is m = absurd is
      gift (Id i) is m = absurd is
      gift (Picture t a b) is m = absurd is
      gift (Old t values) is m = absurd is
      gift (Made v) is m = subst (λ w. made w tree path) (sym is) m

      found : (b : Bool) → agrees (needs latest path) tree ≡ b → made k.1 latest path → IsFound (if b then Some k.1 else None) done → (done.reply ≡ reply.Fetched b) × (done.given.reply ≡ done.reply) × FitsFetch made tree path done.given.reply done.given.gift
      found true fits m is = (is.0.0, is.0.1 ∙ sym is.0.0, subst (λ r. FitsFetch made tree path r done.given.gift) (sym is.0.1) (gift done.given.gift is.1 (laws.agreeing k.1 latest tree path one fits m)))
      found false fits m is = (is.0, is.1 ∙ sym is.0, subst (λ r. FitsFetch made tree path r done.given.gift) (sym is.1) tt)

      go : (b : Bool) → bytes_eq k.0 path ≡ b → (IsFound (hit_of needed path tree kept) done → Result (has_name path (map kept_path kept)))
          → IsFound (value_for needed tree (if b then Some k else item_at kept_path path kept)) done → Result (bytes_eq path k.0 || has_name path (map kept_path kept))
      go true here rest is =
          let same : k.0 ≡ path = same_path k.0 path here in
          let there : bytes_eq path k.0 ≡ true = same_bytes path k.0 ∙ here in
          let m : made k.1 latest path = subst (λ p. made k.1 latest p) same all.0 in
          let needs_is : needed k.1 ≡ needs latest path = laws.keeps k.1 latest path m in
          let h = found (agrees (needs latest path) tree) refl m (subst (λ n. IsFound (if agrees n tree then Some k.1 else None) done) needs_is is) in
          subst (λ b. Result (b || has_name path (map kept_path kept))) (sym there) h
      go false here rest is = subst (λ b. Result (b || has_name path (map kept_path kept))) (sym (same_bytes path k.0 ∙ here)) (rest is)
