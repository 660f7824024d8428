-- The law on which the store rests: what stands so in two trees of one history is one file, and what no edit changes stands so afterwards.
use Rattle.std.proofs.Common.{◌≡◌, ℕ, ◌+◌, ◌-◌, List, [], ◌∷◌, length, Option, Some, None, refl, sym, ap, ◌∙◌, true, false}
use Rattle.std.specs.Prelude.{Bool, ◌||◌, if◌then◌else◌, slice_index_or}
use Rattle.std.specs.Option.{is_some}
use Rattle.std.specs.Str.{bytes_eq}
use Rattle.source_tree.specs.declared.file.File.{File}
use Rattle.source_tree.specs.declared.edit.Edit.{Edit}
use Rattle.source_tree.specs.declared.edit.Edit.TheVariants.{Put, Delete}
use Rattle.source_tree.specs.Edits.{file_at, edited, after_edits}
use Rattle.pg_text.specs.Order.{path_cmp}
use Rattle.source_tree.proofs.LawLemmas.{edit_tells}
use Rattle.pg_text.proofs.OrderLemmas.{eq_tested}
use Rattle.std.proofs.lemmas.Cmp.{nat_list_eq_equiv}
use Rattle.std.specs.Ordering.{match_ordering}
use Rattle.std.specs.declared.cmp.Ordering.{Ordering}
use Rattle.std.specs.declared.cmp.Ordering.TheVariants.{Less, Equal, Greater}
use Rattle.pg_text.specs.Names.{with_name}
use Rattle.source_tree.specs.declared.need.Need.{Need}
use Rattle.site_words.specs.History.{IsTextOf, TextsAre, AreOneHistory}
use Rattle.site_words.specs.Law.{latest_of}
use Rattle.source_tree.specs.Changed.{changed, changed_by, changed_from, has_file}
use Rattle.pg_text.specs.Names.{has_name}
use Rattle.site_words.specs.Trees.{agrees, opt_eq, meets, OneHistory}
use Rattle.source_tree.specs.Stamps.{stamp_of, stamp_in}
use Rattle.site_words.proofs.Items.{each_at, each_left, each_last, and_left, and_right, and_both}
use Rattle.site_words.proofs.OneHistory.{published_one, same_path}

-- the file with this stamp
abbrev pub file_with : (List ℕ → ℕ → List ℕ) → List ℕ → Option ℕ → Option File
file_with text path None = None
file_with text path (Some stamp) = Some (record { path = path; text = text path stamp; stamp = stamp })

file_is : (text : List ℕ → ℕ → List ℕ) (n : ℕ) (path : List ℕ) (o : Option File) → IsTextOf text n path o → o ≡ file_with text path (stamp_in o)
file_is text n path None is = refl
file_is text n path (Some file) is = ap Some is.1

one_pair : (text : List ℕ → ℕ → List ℕ) (n : ℕ) (a b : List File) → TextsAre text n a → TextsAre text n b → OneHistory a b
one_pair text n a b of_a of_b = λ path same.
    file_is text n path (file_at path a) (of_a path) ∙ (ap (λ s. file_with text path s) same ∙ sym (file_is text n path (file_at path b) (of_b path)))

-- any two trees of one history
pub one_at : (stamps : ℕ) (trees : List (List File)) (i j : ℕ) → AreOneHistory stamps trees → OneHistory (slice_index_or trees i []) (slice_index_or trees j [])
one_at stamps trees i j is =
    one_pair is.0 stamps (slice_index_or trees i []) (slice_index_or trees j [])
    (each_at (TextsAre is.0 stamps) trees i [] (λ path. tt) is.1) (each_at (TextsAre is.0 stamps) trees j [] (λ path. tt) is.1)

-- the latest tree and the one that edits make of it
pub one_edited : (stamp : ℕ) (trees : List (List File)) (edits : List Edit) → AreOneHistory stamp trees → OneHistory (latest_of trees) (after_edits edits stamp (latest_of trees))
one_edited stamp trees edits is =
    let new : List File = after_edits edits stamp (latest_of trees) in
    let next = published_one stamp trees edits is in
    one_pair next.0 (stamp + 1) (latest_of trees) new
    (each_at (TextsAre next.0 (stamp + 1)) trees (length trees - 1) [] (λ path. tt) (each_left (TextsAre next.0 (stamp + 1)) trees new next.1))
    (each_last (TextsAre next.0 (stamp + 1)) trees new next.1)

-- one edit and other names

put_other : (put text : List ℕ) (stamp : ℕ) (name : List ℕ) (files : List File) → bytes_eq put name ≡ false → file_at name (edited (Put put text) stamp files) ≡ file_at name files
put_other put text stamp name files other = edit_tells (Put put text) stamp name files ∙ ap (λ (b : Bool). if b then Some (record { path = put; text = text; stamp = stamp }) else file_at name files) other

deleted_is : (q : List ℕ) (stamp : ℕ) (name : List ℕ) (files : List File) (b : Bool) → bytes_eq q name ≡ b → file_at name (edited (Delete q) stamp files) ≡ (if b then None else file_at name files)
deleted_is q stamp name files b is = edit_tells (Delete q) stamp name files ∙ ap (λ (b : Bool). if b then None else file_at name files) is

or_left : (a b : Bool) → (a || b) ≡ false → a ≡ false
or_left true b h = h
or_left false b h = refl

or_right : (a b : Bool) → (a || b) ≡ false → b ≡ false
or_right true b h = absurd (cc)
or_right false b h = h

absent : (found : Option File) → is_some found ≡ false → stamp_in found ≡ None
absent None h = refl
absent (Some file) h = absurd (cc)

-- the names with one more

or_both : (a b : Bool) → a ≡ false → b ≡ false → (a || b) ≡ false
or_both true b h i = h
or_both false b h i = i

pub without_path : (path name : List ℕ) (names : List (List ℕ)) → has_name name (with_name path names) ≡ false → (bytes_eq path name ≡ false) × (has_name name names ≡ false)
without_path path name [] out = (nat_list_eq_equiv.symm path name ∙ or_left (bytes_eq name path) false out, refl)
without_path path name (p ∷ ps) out = go (path_cmp path p) refl out (λ out. without_path path name ps out)
  where
    go : (o : Ordering) → path_cmp path p ≡ o → has_name name (match_ordering o (path ∷ p ∷ ps) (p ∷ ps) (p ∷ with_name path ps)) ≡ false
        → (has_name name (with_name path ps) ≡ false → (bytes_eq path name ≡ false) × (has_name name ps ≡ false)) → (bytes_eq path name ≡ false) × (has_name name (p ∷ ps) ≡ false)
    go Less is out rest = (nat_list_eq_equiv.symm path name ∙ or_left (bytes_eq name path) (has_name name (p ∷ ps)) out, or_right (bytes_eq name path) (has_name name (p ∷ ps)) out)
    go Equal is out rest = (nat_list_eq_equiv.symm path name ∙ ap (λ q. bytes_eq name q) (same_path path p (eq_tested path p Equal is)) ∙ or_left (bytes_eq name p) (has_name name ps) out, out)
    go Greater is out rest =
        let more = rest (or_right (bytes_eq name p) (has_name name (with_name path ps)) out) in
        (more.0, or_both (bytes_eq name p) (has_name name ps) (or_left (bytes_eq name p) (has_name name (with_name path ps)) out) more.1)

before_edit : (old : List File) (names : List (List ℕ)) (edit : Edit) (name : List ℕ) → has_name name (changed_by old names edit) ≡ false → has_name name names ≡ false
before_edit old names (Put path text) name out = (without_path path name names out).1
before_edit old names (Delete path) name out = go (has_file path old) out
  where
    go : (b : Bool) → has_name name (if b then with_name path names else names) ≡ false → has_name name names ≡ false
    go true out = (without_path path name names out).1
    go false out = out

before_edits : (old : List File) (names : List (List ℕ)) (edits : List Edit) (name : List ℕ) → has_name name (changed_from old names edits) ≡ false → has_name name names ≡ false
before_edits old names [] name out = out
before_edits old names (edit ∷ edits) name out = before_edit old names edit name (before_edits old (changed_by old names edit) edits name out)

-- one edit that doesn't change a name
edit_unchanged : (name : List ℕ) (stamp : ℕ) (edit : Edit) (names : List (List ℕ)) (old tree : List File) → has_name name (changed_by old names edit) ≡ false → stamp_of name tree ≡ stamp_of name old → stamp_of name (edited edit stamp tree) ≡ stamp_of name old
edit_unchanged name stamp (Put q text) names old tree out same = ap stamp_in (put_other q text stamp name tree (without_path q name names out).0) ∙ same
edit_unchanged name stamp (Delete q) names old tree out same = go (has_file q old) refl out
  where
    deleted : (b : Bool) → bytes_eq q name ≡ b → (b ≡ true → stamp_of name old ≡ None) → stamp_of name (edited (Delete q) stamp tree) ≡ stamp_of name old
    deleted true is gone = ap stamp_in (deleted_is q stamp name tree true is) ∙ sym (gone refl)
    deleted false is gone = ap stamp_in (deleted_is q stamp name tree false is) ∙ same

    go : (b : Bool) → has_file q old ≡ b → has_name name (if b then with_name q names else names) ≡ false → stamp_of name (edited (Delete q) stamp tree) ≡ stamp_of name old
    go true there out = deleted false (without_path q name names out).0 (λ h. absurd (cc))
    go false there out = deleted (bytes_eq q name) refl (λ h. absent (file_at name old) (ap (λ p. has_file p old) (sym (same_path q name h)) ∙ there))

unchanged_from : (name : List ℕ) (stamp : ℕ) (edits : List Edit) (names : List (List ℕ)) (old tree : List File) → has_name name (changed_from old names edits) ≡ false → stamp_of name tree ≡ stamp_of name old
    → stamp_of name (after_edits edits stamp tree) ≡ stamp_of name old
unchanged_from name stamp [] names old tree out same = same
unchanged_from name stamp (edit ∷ edits) names old tree out same =
    unchanged_from name stamp edits (changed_by old names edit) old (edited edit stamp tree) out
    (edit_unchanged name stamp edit names old tree (before_edits old (changed_by old names edit) edits name out) same)

-- a name that the edits don't change stands as before
pub unchanged : (name : List ℕ) (stamp : ℕ) (edits : List Edit) (old tree : List File) → has_name name (changed edits old) ≡ false → stamp_of name tree ≡ stamp_of name old
    → stamp_of name (after_edits edits stamp tree) ≡ stamp_of name old
unchanged name stamp edits old tree out same = unchanged_from name stamp edits [] old tree out same

-- needs of which none changes stand so afterwards
pub agrees_after : (needs : List Need) (names : List (List ℕ)) (old new : List File) → meets needs names ≡ false → agrees needs old ≡ true
    → ((name : List ℕ) → has_name name names ≡ false → stamp_of name new ≡ stamp_of name old) → agrees needs new ≡ true
agrees_after [] names old new out agree same = refl
agrees_after (need ∷ needs) names old new out agree same =
    and_both (opt_eq (stamp_of need.name new) need.stamp) (agrees needs new)
    (ap (λ s. opt_eq s need.stamp) (same need.name (or_left (has_name need.name names) (meets needs names) out)) ∙ and_left (opt_eq (stamp_of need.name old) need.stamp) (agrees needs old) agree)
    (agrees_after needs names old new (or_right (has_name need.name names) (meets needs names) out) (and_right (opt_eq (stamp_of need.name old) need.stamp) (agrees needs old) agree) same)
