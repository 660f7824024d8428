-- The limits of a tree don't depend on the stamps of its files.
use Rattle.std.proofs.Common.{◌≡◌, ℕ, ◌+◌, Bool, true, false, List, [], ◌∷◌, ◌++◌, length, map, filter, suc, refl, sym, ap, ◌∙◌}
use Rattle.std.proofs.lemmas.List.{map-append}
use Rattle.std.specs.List.{fold, list_any}
use Rattle.std.specs.Ordering.{is_lt, is_gt}
use Rattle.std.specs.Prelude.{◌||◌, if◌then◌else◌, not, sum_by}
use Rattle.std.specs.Str.{bytes_eq}
use Rattle.pg_text.specs.Order.{path_cmp}
use Rattle.source_tree.specs.Edits.{after_edits, edited}
use Rattle.source_tree.specs.Limits.{is_large, tree_fault}
use Rattle.source_tree.specs.declared.edit.Edit.{Edit}
use Rattle.source_tree.specs.declared.edit.Edit.TheVariants.{Put, Delete}
use Rattle.source_tree.specs.declared.file.File.{File}

-- the file without its stamp
abbrev bare : File → File
bare file = record { path = file.path; text = file.text; stamp = 0 }

bare_filter : (p : List ℕ → Bool) (files : List File) → map bare (filter (λ (f : File). p f.path) files) ≡ filter (λ (f : File). p f.path) (map bare files)
bare_filter p [] = refl
bare_filter p (file ∷ files) = go (p file.path) (bare_filter p files)
  where
    go : (b : Bool) → map bare (filter (λ (f : File). p f.path) files) ≡ filter (λ (f : File). p f.path) (map bare files) → map bare (if b then file ∷ filter (λ (f : File). p f.path) files else filter (λ (f : File). p f.path) files)
        ≡ (if b then bare file ∷ filter (λ (f : File). p f.path) (map bare files) else filter (λ (f : File). p f.path) (map bare files))
    go true more = ap (λ l. bare file ∷ l) more
    go false more = more

bare_edited : (edit : Edit) (stamp : ℕ) (files : List File) → map bare (edited edit stamp files) ≡ edited edit 0 (map bare files)
bare_edited (Put path text) stamp files =
    map-append bare (filter (λ (f : File). is_lt (path_cmp f.path path)) files) (record { path = path; text = text; stamp = stamp } ∷ filter (λ (f : File). is_gt (path_cmp f.path path)) files)
    ∙ (ap (λ l. l ++ record { path = path; text = text; stamp = 0 } ∷ map bare (filter (λ (f : File). is_gt (path_cmp f.path path)) files)) (bare_filter (λ other. is_lt (path_cmp other path)) files)
    ∙ ap (λ l. filter (λ (f : File). is_lt (path_cmp f.path path)) (map bare files) ++ record { path = path; text = text; stamp = 0 } ∷ l) (bare_filter (λ other. is_gt (path_cmp other path)) files))
bare_edited (Delete path) stamp files = bare_filter (λ other. not (bytes_eq other path)) files

bare_after : (edits : List Edit) (stamp : ℕ) (files : List File) → map bare (after_edits edits stamp files) ≡ after_edits edits 0 (map bare files)
bare_after [] stamp files = refl
bare_after (edit ∷ edits) stamp files = bare_after edits stamp (edited edit stamp files) ∙ ap (λ l. after_edits edits 0 l) (bare_edited edit stamp files)

bare_length : (files : List File) → length (map bare files) ≡ length files
bare_length [] = refl
bare_length (file ∷ files) = ap (λ n. suc n) (bare_length files)

bare_large : (files : List File) → list_any is_large (map bare files) ≡ list_any is_large files
bare_large [] = refl
bare_large (file ∷ files) = ap (λ b. is_large file || b) (bare_large files)

bare_fold : (start : ℕ) (files : List File) → fold (λ sum (file : File). sum + length file.text) start (map bare files) ≡ fold (λ sum (file : File). sum + length file.text) start files
bare_fold start [] = refl
bare_fold start (file ∷ files) = bare_fold (start + length file.text) files

bare_sum : (files : List File) → sum_by (λ (file : File). length file.text) (map bare files) ≡ sum_by (λ (file : File). length file.text) files
bare_sum files = bare_fold 0 files

bare_fault : (files : List File) → tree_fault (map bare files) ≡ tree_fault files
unfolding tree_fault
bare_fault files = rw (bare_length files, bare_large files, bare_sum files) refl

-- the limits are passed under one stamp as under the other
pub same_fault : (edits : List Edit) (a b : ℕ) (files : List File) → tree_fault (after_edits edits a files) ≡ tree_fault (after_edits edits b files)
same_fault edits a b files =
    sym (bare_fault (after_edits edits a files)) ∙ (ap tree_fault (bare_after edits a files ∙ sym (bare_after edits b files)) ∙ bare_fault (after_edits edits b files))
