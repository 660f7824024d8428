-- What a pass may do, it may do later, as long as it does nothing else; and its request is the one that its own entries say.
use Rattle.std.proofs.Common.{◌≡◌, ◌≢◌, ℕ, ◌+◌, ◌-◌, ◌<◌, List, [], ◌∷◌, ◌++◌, length, Option, Some, None, refl, sym, ap, subst, ◌∙◌, append_assoc, arith, true, false, set, zero, suc, replicate}
use Rattle.std.specs.Prelude.{Bool, ◌==◌, if◌then◌else◌}
use Rattle.std.specs.List.{fold}
use Rattle.std.proofs.lemmas.List.{append-nil, get_or-set_same, get_or-set_other}
use Rattle.std.proofs.lemmas.Bool.Decides.{nat_tests}
use Rattle.std.proofs.Math.ListN.{length-set, length-replicate}
use Rattle.source_tree.specs.declared.file.File.{File}
use Rattle.site_words.specs.declared.words.Run.{Run}
use Rattle.site_words.specs.declared.words.Entry.{Entry}
use Rattle.site_words.specs.declared.words.Opening.{Opening}
use Rattle.site_words.specs.declared.words.Op.{Op}
use Rattle.site_words.specs.declared.words.Op.TheVariants as op
use Rattle.site_words.specs.Fits.{asks}
use Rattle.site_words.specs.Law.{own_from, own, run_of, trees_of, trees_after, Finds, FindsFile, May, Sure}
use Rattle.site_words.specs.Runs.{UnderWay, under_at, run_in, run_at, run_after, under_after, seated}
use Rattle.site_words.specs.State.{State, after, moved, start_of}
use Rattle.source_tree.specs.Changed.{has_file}
use Rattle.site_words.specs.Trees.{Needs}
use Rattle.site_words.proofs.Items.{fold-both, slice_get-left}

-- trees only grow
step_grows : (version : ℕ) (trees : List (List File)) (o : Op) → (more : List (List File)) × (trees_after version trees o ≡ trees ++ more)
step_grows version trees (op.Publish base edits) = (_, refl)
step_grows version trees (op.Begin cookie moment) = ([], sym (append-nil trees))
step_grows version trees (op.App request step) = ([], sym (append-nil trees))
step_grows version trees (op.Fresh request) = ([], sym (append-nil trees))
step_grows version trees (op.Fetch request path) = ([], sym (append-nil trees))
step_grows version trees (op.Offer request path) = ([], sym (append-nil trees))
step_grows version trees (op.End request attrs) = ([], sym (append-nil trees))
step_grows version trees (op.Abandon request) = ([], sym (append-nil trees))
step_grows version trees (op.Snapshot cookie) = ([], sym (append-nil trees))
step_grows version trees op.Roll = ([], sym (append-nil trees))

fold_grows : (version : ℕ) (trees : List (List File)) (entries : List Entry)
    → (more : List (List File)) × (fold (λ trees (e : Entry). trees_after version trees e.op) trees entries ≡ trees ++ more)
fold_grows version trees [] = ([], sym (append-nil trees))
fold_grows version trees (e ∷ entries) =
    let one = step_grows version trees e.op in
    let rest = fold_grows version (trees_after version trees e.op) entries in
    (one.0 ++ rest.0, rest.1 ∙ (ap (λ t. t ++ rest.0) one.1 ∙ append_assoc trees one.0 rest.0))

pub trees_grow : (x : Opening) (front more : List Entry) → (new : List (List File)) × (trees_of x (front ++ more) ≡ trees_of x front ++ new)
trees_grow x front more =
    let rest = fold_grows x.version (trees_of x front) more in
    (rest.0, fold-both (λ trees (e : Entry). trees_after x.version trees e.op) (x.tree ∷ []) front more ∙ rest.1)

file_lasts : (version : ℕ) (trees new : List (List File)) (run : Option Run) (path : List ℕ) → FindsFile version trees run path → FindsFile version (trees ++ new) run path
file_lasts version trees new None path h = h
file_lasts version trees new (Some run) path h = slice_get-left trees new (run.version - version) (λ tree. has_file path tree ≡ true) h

finds_lasts : (version : ℕ) (trees new : List (List File)) (run : Option Run) (o : Op) → Finds version trees run o → Finds version (trees ++ new) run o
finds_lasts version trees new run (op.Publish base edits) h = h
finds_lasts version trees new run (op.Begin cookie moment) h = h
finds_lasts version trees new run (op.App request step) h = h
finds_lasts version trees new run (op.Fresh request) h = h
finds_lasts version trees new run (op.Fetch request path) h = h
finds_lasts version trees new run (op.Offer request path) h = file_lasts version trees new run path h
finds_lasts version trees new run (op.End request attrs) h = h
finds_lasts version trees new run (op.Abandon request) h = h
finds_lasts version trees new run (op.Snapshot cookie) h = h
finds_lasts version trees new run op.Roll h = h

-- THE LAW
pub may_lasts : (x : Opening) (front more : List Entry) (pass : ℕ) (o : Op)
    → May x front pass (own pass front) o → own pass (front ++ more) ≡ own pass front
    → May x (front ++ more) pass (own pass (front ++ more)) o
may_lasts x front more pass o may same =
    let grown = trees_grow x front more in (
      may.0,
      subst (λ entries. asks (run_of entries) o ≡ true) (sym same) may.1,
      subst (λ trees. Finds x.version trees (run_of (own pass (front ++ more))) o) (sym grown.1)
          (subst (λ entries. Finds x.version (trees_of x front ++ grown.0) (run_of entries) o) (sym same)
          (finds_lasts x.version (trees_of x front) grown.0 (run_of (own pass front)) o may.2)),
    )

pub sure_lasts : (x : Opening) (front more : List Entry) (pass : ℕ) (o : Op)
    → Sure x front pass (own pass front) o → own pass (front ++ more) ≡ own pass front
    → Sure x (front ++ more) pass (own pass (front ++ more)) o
sure_lasts x front more pass (op.End request attrs) sure same = subst (λ entries. asks (run_of entries) (op.End request attrs) ≡ true) (sym same) sure
sure_lasts x front more pass (op.Abandon request) sure same = subst (λ entries. asks (run_of entries) (op.Abandon request) ≡ true) (sym same) sure
sure_lasts x front more pass other sure same = sure

-- the request under way

pub seated_run : (run : Option Run) (tree : List File) → run_in (seated run tree) ≡ run
seated_run None tree = refl
seated_run (Some run) tree = refl

pub runs_len : (needs : Needs) (x : Opening) (s : State) (entries : List Entry) → length (fold (moved needs x) s entries).runs ≡ length s.runs
runs_len needs x s [] = refl
runs_len needs x s (e ∷ entries) = runs_len needs x (moved needs x s e) entries ∙ length-set s.runs e.pass (under_after s.tree (under_at s.runs e.pass) e.op e.reply)

one_run : (latest : List File) (runs : List (Option UnderWay)) (e : Entry) (place pass : ℕ) (rest : List (ℕ × Entry)) (b : Bool) → (e.pass == pass) ≡ b → pass < length runs
    → fold (λ run (e : ℕ × Entry). run_after run e.1.op e.1.reply) (run_at (set runs e.pass (under_after latest (under_at runs e.pass) e.op e.reply)) pass) rest
    ≡ fold (λ run (e : ℕ × Entry). run_after run e.1.op e.1.reply) (run_at runs pass) (if b then (place, e) ∷ rest else rest)
one_run latest runs e place pass rest true is h =
    let same : e.pass ≡ pass = grind (arith, nat_tests) in
    let within : e.pass < length runs = omega arith in
    let new : Option UnderWay = under_after latest (under_at runs e.pass) e.op e.reply in
    let at : run_at (set runs e.pass new) pass ≡ run_after (run_at runs pass) e.op e.reply =
    subst (λ k. run_at (set runs e.pass new) k ≡ run_after (run_at runs k) e.op e.reply) same
    (ap run_in (get_or-set_same runs e.pass new None within) ∙ seated_run (run_after (run_in (under_at runs e.pass)) e.op e.reply) _) in
    ap (λ run. fold (λ run (e : ℕ × Entry). run_after run e.1.op e.1.reply) run rest) at
one_run latest runs e place pass rest false is h =
    let other : pass ≢ e.pass = grind (arith, nat_tests) in
    ap (λ under. fold (λ run (e : ℕ × Entry). run_after run e.1.op e.1.reply) (run_in under) rest)
    (get_or-set_other runs e.pass pass (under_after latest (under_at runs e.pass) e.op e.reply) None other)

pub runs_is : (needs : Needs) (x : Opening) (s : State) (place pass : ℕ) (entries : List Entry) → pass < length s.runs
    → run_at (fold (moved needs x) s entries).runs pass ≡ fold (λ run (e : ℕ × Entry). run_after run e.1.op e.1.reply) (run_at s.runs pass) (own_from place pass entries)
runs_is needs x s place pass [] h = refl
runs_is needs x s place pass (e ∷ entries) h =
    let len : length (moved needs x s e).runs ≡ length s.runs = length-set s.runs e.pass (under_after s.tree (under_at s.runs e.pass) e.op e.reply) in
    let h' : pass < length (moved needs x s e).runs = omega arith in
    runs_is needs x (moved needs x s e) (place + 1) pass entries h' ∙ one_run s.tree s.runs e place pass (own_from (place + 1) pass entries) (e.pass == pass) refl h

pub replicate_none : (n k : ℕ) → run_at (replicate n None) k ≡ None
replicate_none zero k = refl
replicate_none (suc n) zero = refl
replicate_none (suc n) (suc k) = replicate_none n k

-- the request that the state has under way for a pass is the one that the pass's own entries say
pub run_is_own : (needs : Needs) (x : Opening) (history : List Entry) (pass : ℕ) → pass < x.passes → run_at (after needs x history).runs pass ≡ run_of (own pass history)
run_is_own needs x history pass h =
    let h' : pass < length (start_of x).runs = omega (arith, length-replicate {A = Option UnderWay} x.passes None) in
    runs_is needs x (start_of x) 0 pass history h' ∙ ap (λ run. fold (λ run (e : ℕ × Entry). run_after run e.1.op e.1.reply) run (own pass history)) (replicate_none x.passes pass)
