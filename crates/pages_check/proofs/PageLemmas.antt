-- The fault of a page, where its size is known and whether it is UTF-8.
use Rattle.std.proofs.Common.{◌||◌, ◌≡◌, ◌≤◌, ◌<◌, ◌+◌, ℕ, Bool, true, false, List, [], ◌∷◌, length, take, nat_lt, Option, Some, None, if◌then◌else◌, IsSome, refl, sym, ap, subst, ◌∙◌, arith}
use Rattle.std.specs.Option.{option_map}
use Rattle.std.specs.Str.{IsUtf8, bytes_eq, is_utf8}
use Rattle.std.specs.Str.Lossy.{utf8_valid_len}
use Rattle.std.specs.List.{list_any}
use Rattle.std.proofs.lemmas.Bool.{ltb-false, ltb-true}
use Rattle.std.proofs.lemmas.Slice.Eq.{bytes_eq-Decides}
use Rattle.std.proofs.lemmas.Str.{IsUtf8-from_is_utf8, is_utf8-from_IsUtf8}
use Rattle.pg_text.specs.declared.place.PageFault.{PageFault}
use Rattle.source_tree.specs.declared.file.File.{File}
use Rattle.source_tree.specs.declared.fault.TreeFault.TheVariants.{TooManyFiles, FileTooLarge, TreeTooLarge}
use Rattle.source_tree.specs.declared.limits.TheConstants.{MAX_FILES, MAX_FILE_BYTES, MAX_TREE_BYTES}
use Rattle.source_tree.specs.Limits.{is_large, tree_fault, IsWithinLimits}
use Rattle.unit_source.specs.Files.{text_in}
use Rattle.unit_words.specs.Needs.{bytes_of}
use Rattle.unit_words.specs.Unit.{fault_in, unit_of}
use Rattle.pages_check.specs.Check.{check_steps, unit_steps}
use Rattle.pages_check.specs.Page.{alone, not_utf8, page_fault, too_large, unit_fault}

not_over : (limit n : ℕ) → n ≤ limit → nat_lt limit n ≡ false
not_over limit n within = go (nat_lt limit n) refl
  where
    go : (over : Bool) → nat_lt limit n ≡ over → over ≡ false
    go false is = refl
    go true is = let more = ltb-true limit n is in absurd (omega (arith, more, within))

over : (limit n : ℕ) → limit < n → nat_lt limit n ≡ true
over limit n above = go (nat_lt limit n) refl
  where
    go : (over : Bool) → nat_lt limit n ≡ over → over ≡ true
    go true is = refl
    go false is = let fewer = ltb-false limit n is in absurd (omega (arith, fewer, above))

isnt_utf8 : (bytes : List ℕ) → ¬ (IsUtf8 bytes) → is_utf8 bytes ≡ false
isnt_utf8 bytes other = go (is_utf8 bytes) refl
  where
    go : (test : Bool) → is_utf8 bytes ≡ test → test ≡ false
    go true passes = absurd (other (IsUtf8-from_is_utf8 bytes passes))
    go false passes = refl

-- a choice between three whose tests are known
chosen : {A : Type 0} {large large2 utf8 utf82 : Bool} (x y z : A) → large ≡ large2 → utf8 ≡ utf82
    → (if large then x else if utf8 then y else z) ≡ (if large2 then x else if utf82 then y else z)
chosen {A} {large} {large2} {utf8} {utf82} x y z a b = ap (λ l. if l then x else if utf8 then y else z) a ∙ ap (λ u. if large2 then x else if u then y else z) b

first_of : {A : Type 0} {large : Bool} (x z : A) → large ≡ true → (if large then x else z) ≡ x
first_of x z a = ap (λ l. if l then x else z) a

pub large_fault : (path bytes : List ℕ) → MAX_FILE_BYTES < length bytes → Some (too_large path) ≡ page_fault path bytes
unfolding page_fault
large_fault path bytes above = sym (first_of _ _ (over MAX_FILE_BYTES (length bytes) above))

pub large_steps : (path bytes : List ℕ) → MAX_FILE_BYTES < length bytes → check_steps path bytes ≡ 0
unfolding check_steps
large_steps path bytes above = first_of _ _ (over MAX_FILE_BYTES (length bytes) above)

pub text_fault : (path bytes : List ℕ) → length bytes ≤ MAX_FILE_BYTES → IsUtf8 bytes → page_fault path bytes ≡ unit_fault path bytes
unfolding page_fault
text_fault path bytes within utf8 = chosen _ _ _ (not_over MAX_FILE_BYTES (length bytes) within) (is_utf8-from_IsUtf8 bytes utf8)

pub text_steps : (path bytes : List ℕ) → length bytes ≤ MAX_FILE_BYTES → IsUtf8 bytes → check_steps path bytes ≡ unit_steps path bytes
unfolding check_steps
text_steps path bytes within utf8 = chosen _ _ _ (not_over MAX_FILE_BYTES (length bytes) within) (is_utf8-from_IsUtf8 bytes utf8)

pub other_fault : (path bytes : List ℕ) → length bytes ≤ MAX_FILE_BYTES → ¬ (IsUtf8 bytes) → page_fault path bytes ≡ Some (not_utf8 path (take (utf8_valid_len bytes) bytes))
unfolding page_fault
other_fault path bytes within other = chosen _ _ _ (not_over MAX_FILE_BYTES (length bytes) within) (isnt_utf8 bytes other)

pub other_steps : (path bytes : List ℕ) → length bytes ≤ MAX_FILE_BYTES → ¬ (IsUtf8 bytes) → check_steps path bytes ≡ 0
unfolding check_steps
other_steps path bytes within other = chosen _ _ _ (not_over MAX_FILE_BYTES (length bytes) within) (isnt_utf8 bytes other)

-- no limit is passed where no test holds
none_passed : (many large together : Bool) → many ≡ false → large ≡ false → together ≡ false
    → (if many then Some TooManyFiles else if large then Some FileTooLarge else if together then Some TreeTooLarge else None) ≡ None
none_passed false false false a b c = refl
none_passed true large together a b c = cc
none_passed false true together a b c = cc
none_passed false false true a b c = cc

-- no file is large where one alone isn't
one_small : (file : File) → is_large file ≡ false → list_any is_large (file ∷ []) ≡ false
one_small file small = ap (λ b. b || false) small

-- a small file alone keeps the limits of a tree
pub alone_within : (path text : List ℕ) → length text ≤ MAX_FILE_BYTES → IsWithinLimits (alone path text)
unfolding tree_fault
alone_within path text small = none_passed _ _ _ (not_over MAX_FILES 1 (omega arith)) (one_small (record { path = path; text = text; stamp = 1 }) (not_over MAX_FILE_BYTES (length text) small)) (not_over MAX_TREE_BYTES _ (omega arith))

-- the text that stands alone is there
alone_stands : (path text : List ℕ) → text_in (alone path text) path ≡ Some text
alone_stands path text = ap (λ b. option_map (λ (file : File). file.text) (if b then Some (record { path = path; text = text; stamp = 1 }) else None)) (same_bytes path)
  where
    same_bytes : (p : List ℕ) → bytes_eq p p ≡ true
    same_bytes p = (bytes_eq-Decides p p).1 refl

stands_in : (path text : List ℕ) (tree : List File) → tree ≡ alone path text → text_in tree path ≡ Some text
stands_in path text tree same = ap (λ files. text_in files path) same ∙ alone_stands path text

pub some_alone : (path text : List ℕ) (tree : List File) → tree ≡ alone path text → IsSome (text_in tree path)
some_alone path text tree same = subst IsSome (sym (stands_in path text tree same)) refl

-- the fault of the unit, and the bytes that it reads, where the files are this text alone
pub fault_alone : (path text : List ℕ) (tree : List File) (fault : Option PageFault) → tree ≡ alone path text
    → ((t : List ℕ) → text_in tree path ≡ Some t → fault ≡ fault_in (unit_of (text_in tree) path t).body) → fault ≡ unit_fault path text
fault_alone path text tree fault same is = is text (stands_in path text tree same) ∙ ap (λ files. fault_in (unit_of (text_in files) path text).body) same

pub steps_alone : (path text : List ℕ) (tree : List File) (before now : ℕ) → tree ≡ alone path text
    → ((t : List ℕ) → text_in tree path ≡ Some t → now ≡ before + bytes_of (text_in tree) (unit_of (text_in tree) path t).deps) → now ≡ before + unit_steps path text
steps_alone path text tree before now same is =
    is text (stands_in path text tree same) ∙ ap (λ files. before + bytes_of (text_in files) (unit_of (text_in files) path text).deps) same
