-- The files of a tree that were read.
use Rattle.std.proofs.Common.{◌≡◌, ◌≤◌, ◌∙◌, ap, sym, refl, subst, cond, Bool, true, false, ℕ, zero, suc, List, [], ◌∷◌, length, Some, None, Err}
use Rattle.std.specs.Prelude.{◌||◌, find, nat_lt, sum_by}
use Rattle.std.specs.List.{insert, list_any}
use Rattle.std.specs.Option.{option_map}
use Rattle.std.specs.Str.{bytes_eq}
use Rattle.std.proofs.lemmas.Bool.{ltb-false}
use Rattle.std.proofs.lemmas.Slice.Eq.{bytes_eq-Decides}
use Rattle.pg_text.specs.Order.{AreRising, IsPlace}
use Rattle.pg_text.proofs.ItemLemmas.{order_with}
use Rattle.pg_text.proofs.PlaceLemmas.{with_absent}
use Rattle.source_tree.specs.declared.file.File.{File}
use Rattle.source_tree.specs.declared.limits.TheConstants.{MAX_FILES, MAX_TREE_BYTES}
use Rattle.source_tree.specs.declared.fault.TreeFault.TheVariants.{TooManyFiles, FileTooLarge, TreeTooLarge}
use Rattle.source_tree.specs.Edits.{file_at}
use Rattle.source_tree.specs.Limits.{IsWithinLimits, is_large, tree_fault}
use Rattle.unit_source.specs.Files.{Files}
use Rattle.unit_source.specs.ReadFiles.{Source, source, source_at, source_path, IsOneOf, AreOf}

-- one more is, wherever it is inserted
pub of_insert : (files : Files) (all : List Source) (at : ℕ) (file : Source) → AreOf files all → IsOneOf files file → AreOf files (insert all at file)
of_insert files [] zero file are is = (is, are)
of_insert files [] (suc at) file are is = (is, are)
of_insert files (first ∷ all) zero file are is = (is, are)
of_insert files (first ∷ all) (suc at) file are is = (are.0, of_insert files all at file are.1 is)

-- a file of the tree that is inserted where a search for its path told it to go is one more, and keeps the order
pub inserted : (files : Files) (read : List Source) (at : ℕ) (path text : List ℕ) (file : Source) → AreOf files read × AreRising source_path read → IsPlace source_path path read (Err at)
    → files path ≡ Some text → file ≡ source path text → AreOf files (insert read at file) × AreRising source_path (insert read at file)
inserted files read at path text file are place found is =
    let new : Source = source path text in
    subst (λ f. AreOf files (insert read at f) × AreRising source_path (insert read at f)) (sym is)
    (of_insert files read at new are.0 found, subst (AreRising source_path) (sym (with_absent source_path new read at place)) (order_with source_path new read are.1))

-- the text of a file of the tree is within its limit
not_large : (many large whole : Bool) → cond many (Some TooManyFiles) (cond large (Some FileTooLarge) (cond whole (Some TreeTooLarge) None)) ≡ None → large ≡ false
not_large true large whole none = absurd (cc)
not_large false true whole none = absurd (cc)
not_large false false whole none = refl

any_found : (test : File → Bool) (path : List ℕ) (files : List File) (file : File) → list_any test files ≡ false → file_at path files ≡ Some file → test file ≡ false
any_found test path [] file none found = absurd (cc)
any_found test path (first ∷ files) file none found = go (test first) (bytes_eq first.path path) refl none found (λ n f. any_found test path files file n f)
  where
    some : Some first ≡ Some file → first ≡ file
    some h = cc

    go : (is here : Bool) → is ≡ test first → (is || list_any test files) ≡ false → cond here (Some first) (file_at path files) ≡ Some file
        → (list_any test files ≡ false → file_at path files ≡ Some file → test file ≡ false) → test file ≡ false
    go true here at none found more = absurd (cc)
    go false true at none found more = ap (λ f. test f) (sym (some found)) ∙ sym at
    go false false at none found more = more none found

pub file_within : (path : List ℕ) (tree : List File) (file : File) → IsWithinLimits tree → file_at path tree ≡ Some file → length file.text ≤ 1048576
unfolding tree_fault
file_within path tree file within found =
    ltb-false 1048576 (length file.text)
    (any_found is_large path tree file (not_large (nat_lt MAX_FILES (length tree)) (list_any is_large tree) (nat_lt MAX_TREE_BYTES (sum_by (λ file. length file.text) tree)) within) found)

-- the one that has the path is the file at that path
pub found_is : (files : Files) (path : List ℕ) (all : List Source) (file : Source) → AreOf files all → find (λ file. bytes_eq file.path path) all ≡ Some file → Some file ≡ source_at files path
found_is files path [] file are found = absurd (cc)
found_is files path (first ∷ all) file are found = go (bytes_eq first.path path) refl found (λ f. found_is files path all file are.1 f)
  where
    same : true ≡ bytes_eq first.path path → first.path ≡ path
    same at = (bytes_eq-Decides first.path path).0 (sym at)

    go : (here : Bool) → here ≡ bytes_eq first.path path → cond here (Some first) (find (λ file. bytes_eq file.path path) all) ≡ Some file
        → (find (λ file. bytes_eq file.path path) all ≡ Some file → Some file ≡ source_at files path) → Some file ≡ source_at files path
    go false at found more = more found
    go true at found more = sym found ∙ ap (λ p. Some (source p first.text)) (same at) ∙ sym (ap (λ t. option_map (source path) t) (ap files (sym (same at)) ∙ are.0))
