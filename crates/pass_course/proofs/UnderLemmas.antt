-- The request under way: its test, and how it goes on.
use Rattle.std.proofs.Common.{eq-eqb, ◌≡◌, ℕ, zero, suc, ◌-◌, ◌<◌, Bool, true, false, List, [], ◌∷◌, ◌++◌, Option, Some, None, refl, sym, ap, subst, ◌∙◌}
use Rattle.std.proofs.lemmas.Bool.Decides.{Decides-eqb}
use Rattle.std.proofs.lemmas.Slice.Eq.{bytes_eq-Decides}
use Rattle.std.specs.Prelude.{◌&&◌, ◌==◌, slice_get}
use Rattle.std.specs.Str.{bytes_eq}
use Rattle.edges.specs.History.{IsFront}
use Rattle.pass_course.proofs.CourseLemmas.{counted_on, done_counts}
use Rattle.pass_course.specs.Course.{HasDone}
use Rattle.pass_course.specs.Laws.{UnderIsTested}
use Rattle.pass_course.specs.Under.{Under, is_run, is_tree, is_under, same_file, same_files}
use Rattle.site_words.proofs.Items.{and_both, and_left, and_right, get_left, lt_of, to_lt}
use Rattle.site_words.proofs.Lasting.{trees_grow}
use Rattle.site_words.specs.Law.{own, run_of, trees_of}
use Rattle.site_words.specs.Opening.{no_fault}
use Rattle.site_words.specs.Runs.{run_after}
use Rattle.site_words.specs.Trees.{Needs}
use Rattle.site_words.specs.declared.words.Entry.{Entry}
use Rattle.site_words.specs.declared.words.Op.{Op}
use Rattle.site_words.specs.declared.words.Opening.{Opening}
use Rattle.site_words.specs.declared.words.Reply.{Reply}
use Rattle.site_words.specs.declared.words.Run.{Run}
use Rattle.source_tree.specs.Limits.{tree_fault}
use Rattle.source_tree.specs.declared.fault.TreeFault.{TreeFault}
use Rattle.source_tree.specs.declared.file.File.{File}

-- the test of files

file_is : (a b : File) → same_file a b ≡ true → a ≡ b
file_is a b h =
    let path = (bytes_eq-Decides a.path b.path).0 (and_left (bytes_eq a.path b.path) (bytes_eq a.text b.text && (a.stamp == b.stamp)) h) in
    let rest = and_right (bytes_eq a.path b.path) (bytes_eq a.text b.text && (a.stamp == b.stamp)) h in
    let text = (bytes_eq-Decides a.text b.text).0 (and_left (bytes_eq a.text b.text) (a.stamp == b.stamp) rest) in
    let stamp = (Decides-eqb a.stamp b.stamp).0 (and_right (bytes_eq a.text b.text) (a.stamp == b.stamp) rest) in
    ap (λ p. record { path = p; text = a.text; stamp = a.stamp }) path ∙ (ap (λ t. record { path = b.path; text = t; stamp = a.stamp }) text ∙ ap (λ n. record { path = b.path; text = b.text; stamp = n }) stamp)

is_file : (a : File) → same_file a a ≡ true
is_file a = and_both (bytes_eq a.path a.path) (bytes_eq a.text a.text && (a.stamp == a.stamp)) ((bytes_eq-Decides a.path a.path).1 refl)
    (and_both (bytes_eq a.text a.text) (a.stamp == a.stamp) ((bytes_eq-Decides a.text a.text).1 refl) ((Decides-eqb a.stamp a.stamp).1 refl))

files_are : (a b : List File) → same_files a b ≡ true → a ≡ b
files_are [] [] h = refl
files_are [] (b ∷ others) h = absurd (cc)
files_are (a ∷ rest) [] h = absurd (cc)
files_are (a ∷ rest) (b ∷ others) h =
    ap (λ f. f ∷ rest) (file_is a b (and_left (same_file a b) (same_files rest others) h)) ∙ ap (λ fs. b ∷ fs) (files_are rest others (and_right (same_file a b) (same_files rest others) h))

are_files : (a : List File) → same_files a a ≡ true
are_files [] = refl
are_files (a ∷ rest) = and_both (same_file a a) (same_files rest rest) (is_file a) (are_files rest)

tree_is : (tree : List File) (found : Option (List File)) → is_tree tree found ≡ true → found ≡ Some tree
tree_is tree None h = absurd (cc)
tree_is tree (Some other) h = ap (λ t. Some t) (sym (files_are tree other h))

fault_is : (fault : Option TreeFault) → no_fault fault ≡ true → fault ≡ None
fault_is None h = refl
fault_is (Some fault) h = absurd (cc)

-- the test of the request under way

run_is : (x : Opening) (pass : ℕ) (seen : List Entry) (request : ℕ) (tree : List File) (found : Option Run) → pass < x.passes → tree_fault tree ≡ None → run_of (own pass seen) ≡ found → is_run x seen request tree found ≡ true
    → (run : Run) × Under x pass seen request tree run
run_is x pass seen request tree None within limits is h = absurd (cc)
run_is x pass seen request tree (Some run) within limits is h = (
  run,
  record {
    within = within;
    limits = limits;
    run_is = is;
    request_is = (Decides-eqb run.request request).0 (and_left (run.request == request) (is_tree tree (slice_get (trees_of x seen) (run.version - x.version))) h);
    tree_is = tree_is tree (slice_get (trees_of x seen) (run.version - x.version)) (and_right (run.request == request) (is_tree tree (slice_get (trees_of x seen) (run.version - x.version))) h);
  },
)

pub under_holds : (x : Opening) (pass : ℕ) (seen : List Entry) (request : ℕ) (tree : List File) → is_under x pass seen request tree ≡ true → (run : Run) × Under x pass seen request tree run
unfolding is_under
under_holds x pass seen request tree h =
    let rest = and_right (Rattle.std.specs.Prelude.nat_lt pass x.passes) (no_fault (tree_fault tree) && is_run x seen request tree (run_of (own pass seen))) h in
    run_is x pass seen request tree (run_of (own pass seen))
    (lt_of pass x.passes (and_left (Rattle.std.specs.Prelude.nat_lt pass x.passes) (no_fault (tree_fault tree) && is_run x seen request tree (run_of (own pass seen))) h))
    (fault_is (tree_fault tree) (and_left (no_fault (tree_fault tree)) (is_run x seen request tree (run_of (own pass seen))) rest)) refl
    (and_right (no_fault (tree_fault tree)) (is_run x seen request tree (run_of (own pass seen))) rest)

pub under_told : (x : Opening) (pass : ℕ) (seen : List Entry) (request : ℕ) (tree : List File) (run : Run) → Under x pass seen request tree run → is_under x pass seen request tree ≡ true
unfolding is_under
under_told x pass seen request tree run under =
    let tree_so : is_tree tree (slice_get (trees_of x seen) (run.version - x.version)) ≡ true = ap (is_tree tree) under.tree_is ∙ are_files tree in
    let run_so : is_run x seen request tree (run_of (own pass seen)) ≡ true =
    ap (is_run x seen request tree) under.run_is
    ∙ and_both (run.request == request) (is_tree tree (slice_get (trees_of x seen) (run.version - x.version))) ((Decides-eqb run.request request).1 under.request_is) tree_so in
    and_both (Rattle.std.specs.Prelude.nat_lt pass x.passes) (no_fault (tree_fault tree) && is_run x seen request tree (run_of (own pass seen))) (to_lt pass x.passes under.within)
    (and_both (no_fault (tree_fault tree)) (is_run x seen request tree (run_of (own pass seen))) (ap no_fault under.limits) run_so)

pub under_is_tested : UnderIsTested
under_is_tested = record { holds = under_holds; told = under_told }

-- the request goes on

-- what a course makes of the request under way
pub done_run : (needs : Needs) (x : Opening) (pass : ℕ) (old new : List Entry) (calls : List (Op × Reply)) → HasDone needs x pass old new calls → run_of (own pass new) ≡ counted_on run_after (run_of (own pass old)) calls
done_run needs x pass old new calls done = done_counts run_after None needs x pass old new calls done

pub tree_lasts : (x : Opening) (old new : List Entry) (version : ℕ) (tree : List File) → IsFront old new → slice_get (trees_of x old) (version - x.version) ≡ Some tree → slice_get (trees_of x new) (version - x.version) ≡ Some tree
tree_lasts x old new version tree front is =
    let grown = trees_grow x old front.0 in
    ap (λ t. slice_get t (version - x.version)) (ap (λ h. trees_of x h) front.1 ∙ grown.1) ∙ get_left (trees_of x old) grown.0 (version - x.version) tree is

-- it is under way still, with its number and version
pub under_on : (needs : Needs) (x : Opening) (pass : ℕ) (old new : List Entry) (calls : List (Op × Reply)) (request : ℕ) (tree : List File) (run next : Run) → Under x pass old request tree run → HasDone needs x pass old new calls
    → counted_on run_after (Some run) calls ≡ Some next → next.request ≡ run.request → next.version ≡ run.version → Under x pass new request tree next
under_on needs x pass old new calls request tree run next under done is number version = record {
  within = under.within;
  limits = under.limits;
  run_is = done_run needs x pass old new calls done ∙ (ap (λ r. counted_on run_after r calls) under.run_is ∙ is);
  request_is = number ∙ under.request_is;
  tree_is = tree_lasts x old new next.version tree done.longer (ap (λ v. slice_get (trees_of x old) (v - x.version)) version ∙ under.tree_is);
}
