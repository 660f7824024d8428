-- What a call of the port does to the request under way, while a page is found.
use Rattle.std.proofs.Common.{◌≡◌, inl, inr, ℕ, ◌+◌, ◌-◌, ◌≤◌, Bool, true, false, List, [], ◌∷◌, Option, Some, None, refl, sym, ap, subst, ◌∙◌, arith}
use Rattle.std.specs.Prelude.{◌==◌, IsSome, IsSomeAnd, nat_le, slice_get, slice_index_or, Result, Ok, Err}
use Rattle.std.proofs.lemmas.Bool.Decides.{Decides-eqb}
use Rattle.std.proofs.lemmas.Option.{get_or_from_slice_get}
use Rattle.page_answers.specs.Turns.{hit, missed, names_of, page_bytes, unoffered}
use Rattle.compiled_pages.specs.Made.{IsUnitOf}
use Rattle.pass_course.proofs.CourseLemmas.{courses_join, done_acts, done_stays}
use Rattle.pass_course.proofs.UnderLemmas.{under_on}
use Rattle.pass_course.specs.Course.{HasDone}
use Rattle.pass_course.specs.Under.{Under}
use Rattle.request_port.specs.Finding.{IsFound, Offers}
use Rattle.site_words.proofs.Items.{and_both, to_le}
use Rattle.site_words.specs.Answers.{ForRun}
use Rattle.site_words.specs.Calls.{Acts, Stays}
use Rattle.site_words.specs.Fits.{has_run}
use Rattle.site_words.specs.Law.{FindsFile, May, own, run_of, trees_of}
use Rattle.site_words.specs.Running.{IsPageFile}
use Rattle.site_words.specs.Trees.{Needs}
use Rattle.site_words.specs.Weights.{end_weight, op_weight}
use Rattle.site_words.specs.declared.words.Entry.{Entry}
use Rattle.site_words.specs.declared.words.Op.TheVariants as op
use Rattle.site_words.specs.declared.words.Opening.{Opening}
use Rattle.site_words.specs.declared.words.Reply.TheVariants as reply
use Rattle.site_words.specs.declared.words.Run.{Run}
use Rattle.source_tree.specs.Changed.{has_file}
use Rattle.source_tree.specs.Edits.{file_at}
use Rattle.source_tree.specs.declared.file.File.{File}
use Rattle.unit_nodes.specs.declared.unit.Unit.{Unit}
use Rattle.unit_source.specs.Files.{text_in}
use Rattle.unit_words.specs.Needs.{bytes_of}
use Rattle.unit_words.specs.Views.{unit_view}

-- the file of a page

there : (path : List ℕ) (file : Option File) → IsPageFile path file → IsSome (Rattle.std.specs.Option.option_map (λ (f : File). f.text) file)
there path None is = absurd is
there path (Some file) is = refl

pub text_there : (tree : List File) (path : List ℕ) → IsPageFile path (file_at path tree) → IsSome (text_in tree path)
text_there tree path is = there path (file_at path tree) is

file_there : (path : List ℕ) (file : Option File) → IsPageFile path file → Rattle.std.specs.Option.is_some file ≡ true
file_there path None is = absurd is
file_there path (Some file) is = refl

-- what is allowed of the request

pub has_run_so : (found : Option Run) (run : Run) (request claim : ℕ) → found ≡ Some run → run.request ≡ request → claim ≤ run.left → has_run found request claim ≡ true
has_run_so found run request claim is number enough =
    ap (λ r. has_run r request claim) is ∙ and_both (run.request == request) (nat_le claim run.left) ((Decides-eqb run.request request).1 number) (to_le claim run.left enough)

pub may_fetch : (x : Opening) (pass : ℕ) (seen : List Entry) (request : ℕ) (tree : List File) (run : Run) (path : List ℕ) → Under x pass seen request tree run → op_weight (op.Fetch request path) + end_weight ≤ run.left
    → May x seen pass (own pass seen) (op.Fetch request path)
may_fetch x pass seen request tree run path under room =
    (under.within, has_run_so (run_of (own pass seen)) run request (op_weight (op.Fetch request path) + end_weight) under.run_is under.request_is room, tt)

finds_tree : (trees : List (List File)) (k : ℕ) (tree : List File) (path : List ℕ) → slice_get trees k ≡ Some tree → has_file path tree ≡ true → IsSomeAnd (slice_get trees k) (λ t. has_file path t ≡ true)
finds_tree trees k tree path is has = subst (λ o. IsSomeAnd o (λ t. has_file path t ≡ true)) (sym is) has

pub may_offer : (x : Opening) (pass : ℕ) (seen : List Entry) (request : ℕ) (tree : List File) (run : Run) (path : List ℕ) → Under x pass seen request tree run → IsPageFile path (file_at path tree)
    → op_weight (op.Offer request path) + end_weight ≤ run.left → May x seen pass (own pass seen) (op.Offer request path)
may_offer x pass seen request tree run path under file room = (
  under.within,
  has_run_so (run_of (own pass seen)) run request (op_weight (op.Offer request path) + end_weight) under.run_is under.request_is room,
  subst (λ r. FindsFile x.version (trees_of x seen) r path) (sym under.run_is) (finds_tree (trees_of x seen) (run.version - x.version) tree path under.tree_is (file_there path (file_at path tree) file)),
)

at_index : {A : Type 0} (xs : List A) (k : ℕ) (a d : A) → slice_get xs k ≡ Some a → slice_index_or xs k d ≡ a
at_index xs k a d is = get_or_from_slice_get xs k a d is

-- what holds of the request's tree
pub for_run : (x : Opening) (pass : ℕ) (seen : List Entry) (request : ℕ) (tree : List File) (run : Run) (P : List File → Type 0) → Under x pass seen request tree run → P tree → ForRun x seen (run_of (own pass seen)) P
for_run x pass seen request tree run P under holds =
    subst (λ r. ForRun x seen r P) (sym under.run_is) (subst P (sym (at_index (trees_of x seen) (run.version - x.version) tree [] under.tree_is)) holds)

pub of_run : (x : Opening) (pass : ℕ) (seen : List Entry) (request : ℕ) (tree : List File) (run : Run) (P : List File → Type 0) → Under x pass seen request tree run → ForRun x seen (run_of (own pass seen)) P → P tree
of_run x pass seen request tree run P under holds =
    let h : ForRun x seen (Some run) P = subst (λ r. ForRun x seen r P) under.run_is holds in
    subst P (at_index (trees_of x seen) (run.version - x.version) tree [] under.tree_is) h

-- what the port's calls make of it

spent_enough : (a b left : ℕ) → a + b ≤ left → b ≤ left - a
spent_enough a b left h = omega (arith, h)

-- a page was looked for: the request is under way still, with room for what was to come behind
pub fetched_on : (needs : Needs) (x : Opening) (pass : ℕ) (old new : List Entry) (request : ℕ) (tree : List File) (run : Run) (path : List ℕ) (found : Bool) (room : ℕ) → Under x pass old request tree run
    → HasDone needs x pass old new ((op.Fetch request path, reply.Fetched found) ∷ []) → op_weight (op.Fetch request path) + room ≤ run.left → (next : Run) × Under x pass new request tree next × (room ≤ next.left)
fetched_on needs x pass old new request tree run path found room under done enough =
    let next : Run = record { request = run.request; version = run.version; session = run.session; left = run.left - op_weight (op.Fetch request path) } in
    (next, under_on needs x pass old new ((op.Fetch request path, reply.Fetched found) ∷ []) request tree run next under done refl refl refl, spent_enough (op_weight (op.Fetch request path)) room run.left enough)

-- the same of a port that is told to be the same
pub same_under : (x y : Opening) (pass other : ℕ) (seen : List Entry) (request : ℕ) (tree : List File) (room : ℕ) → y ≡ x → other ≡ pass → (next : Run) × Under x pass seen request tree next × (room ≤ next.left)
    → (next : Run) × Under y other seen request tree next × (room ≤ next.left)
same_under x y pass other seen request tree room opening same h =
    (h.0, subst (λ x. Under x other seen request tree h.0) (sym opening) (subst (λ p. Under x p seen request tree h.0) (sym same) h.1), h.2)

pub same_offers : {A E : Type 0} (needs : Needs) (x y : Opening) (pass other : ℕ) (old new : List Entry) (before now request : ℕ) (tree : List File) (path : List ℕ) (result : Result A E) → y ≡ x → other ≡ pass
    → Offers needs y other old new before now request tree path result → Offers needs x pass old new before now request tree path result
same_offers needs x y pass other old new before now request tree path result opening same h =
    subst (λ x. Offers needs x pass old new before now request tree path result) opening (subst (λ p. Offers needs y p old new before now request tree path result) same h)

-- what is kept of a page was taken
pub found_hit : {A E : Type 0} (needs : Needs) (x : Opening) (pass : ℕ) (old new : List Entry) (steps request : ℕ) (tree : List File) (path : List ℕ) (a : A) → Acts needs x pass old new (op.Fetch request path) (reply.Fetched true)
    → IsFound needs x pass old new steps steps request tree path {A = A} {E = E} (Ok a)
found_hit needs x pass old new steps request tree path a acts = record {
  turns = hit path ∷ [];
  finds = inl refl;
  did = done_acts needs x pass old new (op.Fetch request path) (reply.Fetched true) acts;
  read = omega arith;
  exact = λ whole. omega arith;
}

-- a page was missed, and made anew
pub found_missed : {A E : Type 0} (needs : Needs) (x : Opening) (pass : ℕ) (old mid new : List Entry) (before now request : ℕ) (tree : List File) (path : List ℕ) (result : Result A E)
    → Acts needs x pass old mid (op.Fetch request path) (reply.Fetched false) → Offers needs x pass mid new before now request tree path result → IsFound needs x pass old new before now request tree path result
found_missed needs x pass old mid new before now request tree path (Ok a) acts offers =
    let one = done_acts needs x pass old mid (op.Fetch request path) (reply.Fetched false) acts in
    record {
      turns = missed path offers.0 ∷ [];
      finds = inr (offers.0, refl);
      did = courses_join needs x pass old mid new ((op.Fetch request path, reply.Fetched false) ∷ []) ((op.Offer request path, reply.Offered offers.0) ∷ []) one offers.1;
      read = let r = offers.2 in omega (arith, r);
      exact = λ whole. let r = offers.2 in omega (arith, r);
    }
found_missed needs x pass old mid new before now request tree path (Err e) acts offers =
    let one = done_acts needs x pass old mid (op.Fetch request path) (reply.Fetched false) acts in
    record {
      turns = unoffered path ∷ [];
      finds = inr refl;
      did = courses_join needs x pass old mid new ((op.Fetch request path, reply.Fetched false) ∷ []) [] one offers.0;
      read = let r = offers.1 in omega (arith, r);
      exact = λ whole. absurd (cc);
    }

-- what is built of a path reads what the page there depends on
pub read_is : (unit : Unit) (tree : List File) (path : List ℕ) (before now : ℕ) → IsUnitOf unit tree path → now ≡ before + bytes_of (text_in tree) (unit_view unit).deps → now ≡ before + page_bytes tree path
read_is unit tree path before now is e = e ∙ ap (λ u. before + bytes_of (text_in tree) (names_of u)) (sym is.stands)

pub read_bound : (unit : Unit) (tree : List File) (path : List ℕ) (before now : ℕ) → IsUnitOf unit tree path → now ≡ before + bytes_of (text_in tree) (unit_view unit).deps → now ≤ before + page_bytes tree path
read_bound unit tree path before now is e = let r = read_is unit tree path before now is e in omega (arith, r)

-- a page was not even looked for
pub found_none : {A E : Type 0} (needs : Needs) (x : Opening) (pass : ℕ) (old new : List Entry) (steps request : ℕ) (tree : List File) (path : List ℕ) (e : E) → Stays needs x pass old new
    → IsFound needs x pass old new steps steps request tree path {A = A} {E = E} (Err e)
found_none needs x pass old new steps request tree path e stays =
    record { turns = []; finds = inl refl; did = done_stays needs x pass old new stays; read = omega arith; exact = λ whole. omega arith }
