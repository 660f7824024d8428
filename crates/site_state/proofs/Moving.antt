-- An operation moves the parts of a state.
use Rattle.std.proofs.Common.{◌≡◌, ℕ, ◌+◌, List, Option, Some, None, map, set, length, get_or, zero, suc, ◌<◌, [], ◌∷◌, refl, sym, ap, ◌∙◌, arith}
use Rattle.std.specs.Prelude.{slice_get, slice_index_or}
use Rattle.source_tree.specs.declared.file.File.{File}
use Rattle.program_store.specs.Store.{kept_path}
use Rattle.site_words.specs.declared.words.Entry.{Entry}
use Rattle.site_words.specs.declared.words.Op.{Op}
use Rattle.site_words.specs.declared.words.Opening.{Opening}
use Rattle.site_words.specs.declared.words.Reply.{Reply}
use Rattle.site_words.specs.App.{app_after}
use Rattle.site_words.specs.Ready.{ready_after}
use Rattle.site_words.specs.Runs.{UnderWay, run_in, seated, tree_in, under_after, under_at}
use Rattle.site_words.specs.Sessions.{moment_after, sessions_after}
use Rattle.site_words.specs.State.{begins_after, freshes_after, tree_after, version_after}
use Rattle.site_words.specs.Trees.{Needs}
use Rattle.site_words.specs.Weights.{weight_after}
use Rattle.site_state.specs.Parts.{Parts}
use Rattle.site_state.specs.Sources.{AreThere, sessions_of}
use Rattle.site_state.specs.Works.{AreKept, Moves, entry_of}

module _ {P : Type 0} (needs : Needs) (made : P → List File → List ℕ → Type 0) where
  -- the parts, each moved
  pub record MovesParts (x : Opening) (place : ℕ) (old new : Parts P) (pass : ℕ) (o : Op) (r : Reply) : Type 0 where
    pub tree : new.tree ≡ tree_after old.tree old.version o
    pub version : new.version ≡ version_after old.version o
    pub app : new.app ≡ app_after old.app o
    pub sessions : (history : List Entry) → slice_get history place ≡ Some (entry_of pass o r)
        → sessions_of x.sessions history new.sessions ≡ sessions_after x.seed (moment_after old.moment o) old.runs (run_in (under_at old.runs pass)) (sessions_of x.sessions history old.sessions) o r
    pub runs : new.runs ≡ set old.runs pass (under_after old.tree (under_at old.runs pass) o r)
    pub begins : new.begins ≡ begins_after old.begins o
    pub freshes : new.freshes ≡ freshes_after old.freshes o
    pub moment : new.moment ≡ moment_after old.moment o
    pub ready : map kept_path new.kept ≡ ready_after needs old.tree (map kept_path old.kept) o r
    pub weight : new.weight ≡ weight_after old.weight o r

  pub moves_by : (x : Opening) (place : ℕ) (old new : Parts P) (pass : ℕ) (o : Op) (r : Reply) → MovesParts x place old new pass o r → (AreThere place old.sessions → AreThere (place + 1) new.sessions)
      → (AreKept made old.tree old.kept → AreKept made new.tree new.kept) → Moves needs made x place old new (entry_of pass o r)
  moves_by x place old new pass o r parts there kept = record {
    state = λ history is i. record {
      tree = parts.tree i;
      version = parts.version i;
      app = parts.app i;
      sessions = parts.sessions history is i;
      runs = parts.runs i;
      begins = parts.begins i;
      freshes = parts.freshes i;
      moment = parts.moment i;
      ready = parts.ready i;
      weight = parts.weight i;
    };
    there = there;
    kept = kept;
  }

-- the runs where the pass's request stays as it is

seated_same : (under : Option UnderWay) → seated (run_in under) (tree_in under) ≡ under
seated_same None = refl
seated_same (Some under) = refl

set_same : (runs : List (Option UnderWay)) (pass : ℕ) → set runs pass (under_at runs pass) ≡ runs
set_same [] pass = refl
set_same (run ∷ runs) zero = refl
set_same (run ∷ runs) (suc pass) = ap (λ l. run ∷ l) (set_same runs pass)

pub run_stays : (runs : List (Option UnderWay)) (pass : ℕ) → runs ≡ set runs pass (seated (run_in (under_at runs pass)) (tree_in (under_at runs pass)))
run_stays runs pass = sym (ap (λ u. set runs pass u) (seated_same (under_at runs pass)) ∙ set_same runs pass)

-- the runs, where that of one pass is another

pub map_set : {A B : Type 0} (f : A → B) (xs : List A) (k : ℕ) (y : A) → map f (set xs k y) ≡ set (map f xs) k (f y)
map_set f [] k y = refl
map_set f (x ∷ xs) zero y = refl
map_set f (x ∷ xs) (suc k) y = ap (λ l. f x ∷ l) (map_set f xs k y)

set_twice : {A : Type 0} (xs : List A) (k : ℕ) (y z : A) → set (set xs k y) k z ≡ set xs k z
set_twice [] k y z = refl
set_twice (x ∷ xs) zero y z = refl
set_twice (x ∷ xs) (suc k) y z = ap (λ l. x ∷ l) (set_twice xs k y z)

pub get_map : {A B : Type 0} (f : A → B) (xs : List A) (k : ℕ) (x : A) (d : B) → k < length xs → x ≡ get_or xs k x → slice_index_or (map f xs) k d ≡ f x
get_map f [] k x d within read = absurd (omega arith)
get_map f (y ∷ xs) zero x d within read = ap f (sym read)
get_map f (y ∷ xs) (suc k) x d within read = get_map f xs k x d (omega arith) read

-- a request that is taken out, changed and put back
pub changed_run : {A B : Type 0} (f : A → B) (g : B → B) (xs : List A) (k : ℕ) (x hole y : A) (d : B) → k < length xs → x ≡ get_or xs k x → f y ≡ g (f x) → map f (set (set xs k hole) k y) ≡ set (map f xs) k (g (slice_index_or (map f xs) k d))
changed_run f g xs k x hole y d within read is =
    ap (λ l. map f l) (set_twice xs k hole y) ∙ (map_set f xs k y ∙ ap (λ v. set (map f xs) k v) (is ∙ ap g (sym (get_map f xs k x d within read))))
