-- The trees that requests began with are kept.
use Rattle.std.proofs.Common.{◌≡◌, ℕ, zero, suc, ◌+◌, true, List, [], ◌∷◌, ◌++◌, length, map, set, replicate, Option, Some, None, refl, sym, ap, subst, ◌∙◌, add-one}
use Rattle.std.proofs.lemmas.List.{map-set}
use Rattle.std.specs.Arc.{arc_value}
use Rattle.std.specs.declared.sync.Arc.{Arc}
use Rattle.std.specs.Prelude.{slice_index_or}
use Rattle.site_state.specs.Gifts.{FitsGift, IsStart}
use Rattle.site_state.specs.declared.gift.Gift.{Gift}
use Rattle.site_state.specs.declared.gift.Gift.TheVariants.{Nothing, Start, Made, Id, Picture, Old}
use Rattle.site_words.specs.Runs.{UnderWay, base_after, run_after, run_in, seated, tree_in, under_after, under_at}
use Rattle.site_words.specs.Sessions.{moment_after}
use Rattle.site_words.specs.State.{State, after}
use Rattle.site_words.specs.Trees.{Needs}
use Rattle.site_words.specs.declared.words.Entry.{Entry}
use Rattle.site_words.specs.declared.words.Op.{Op}
use Rattle.site_words.specs.declared.words.Op.TheVariants as op
use Rattle.site_words.specs.declared.words.Opening.{Opening}
use Rattle.site_words.specs.declared.words.Reply.{Reply}
use Rattle.site_words.specs.declared.words.Run.{Run}
use Rattle.source_tree.specs.Limits.{IsWithinLimits}
use Rattle.source_tree.specs.declared.file.File.{File}
use Rattle.journal_entries.specs.Bases.{AreBases, IsBase, base_in, bases_with, is_begin, tree_in_base}

-- the list of them

push_none : {A : Type 0} (n : ℕ) → replicate {A = Option A} n None ++ (None ∷ []) ≡ replicate {A = Option A} (suc n) None
push_none zero = refl
push_none {A} (suc n) = ap (λ (l : List (Option A)). None ∷ l) (push_none n)

map_push : {A B : Type 0} (f : A → B) (xs : List A) (y : A) → map f (xs ++ (y ∷ [])) ≡ map f xs ++ (f y ∷ [])
map_push f [] y = refl
map_push f (x ∷ xs) y = ap (λ l. f x ∷ l) (map_push f xs y)

pub none_more : {Z : Type 0} (xs : List (Option (Arc (List File) Z))) (n : ℕ) → map tree_in_base xs ≡ replicate n None → map tree_in_base (xs ++ (None ∷ [])) ≡ replicate (n + 1) None
none_more xs n same = rw add-one (map_push tree_in_base xs None ∙ ap (λ l. l ++ (None ∷ [])) same ∙ push_none n)

pub set_base : {Z : Type 0} (xs : List (Option (Arc (List File) Z))) (k : ℕ) (tree : Arc (List File) Z) → map tree_in_base (set xs k (Some tree)) ≡ set (map tree_in_base xs) k (Some (arc_value tree))
set_base xs k tree = map-set tree_in_base xs k (Some tree)

-- one for each request under way

pub bases_none : (n : ℕ) → AreBases (replicate n None) (replicate n None)
bases_none zero = tt
bases_none (suc n) = (tt, bases_none n)

pub bases_first : (needs : Needs) (x y : Opening) (history : List Entry) (bases : List (Option (List File))) → history ≡ [] → y ≡ x → bases ≡ replicate y.passes None → AreBases (after needs x history).runs bases
bases_first needs x y history bases empty same is =
    subst (λ h. AreBases (after needs x h).runs bases) (sym empty) (subst (AreBases (replicate x.passes None)) (sym (is ∙ ap (λ (z : Opening). replicate z.passes None) same)) (bases_none x.passes))

pub bases_long : (runs : List (Option UnderWay)) (bases : List (Option (List File))) → AreBases runs bases → length bases ≡ length runs
bases_long [] [] are = refl
bases_long [] (b ∷ bs) are = absurd are
bases_long (u ∷ us) [] are = absurd are
bases_long (u ∷ us) (b ∷ bs) are = ap suc (bases_long us bs are.1)

pub base_at : (runs : List (Option UnderWay)) (bases : List (Option (List File))) (pass : ℕ) → AreBases runs bases → IsBase (under_at runs pass) (slice_index_or bases pass None)
base_at [] [] pass are = tt
base_at [] (b ∷ bs) pass are = absurd are
base_at (u ∷ us) [] pass are = absurd are
base_at (u ∷ us) (b ∷ bs) zero are = are.0
base_at (u ∷ us) (b ∷ bs) (suc pass) are = base_at us bs pass are.1

both_set : (runs : List (Option UnderWay)) (bases : List (Option (List File))) (pass : ℕ) (v : Option UnderWay) (c : Option (List File)) → AreBases runs bases → IsBase v c → AreBases (set runs pass v) (set bases pass c)
both_set [] [] pass v c are is = tt
both_set [] (b ∷ bs) pass v c are is = absurd are
both_set (u ∷ us) [] pass v c are is = absurd are
both_set (u ∷ us) (b ∷ bs) zero v c are is = (is, are.1)
both_set (u ∷ us) (b ∷ bs) (suc pass) v c are is = (are.0, both_set us bs pass v c are.1 is)

one_set : (runs : List (Option UnderWay)) (bases : List (Option (List File))) (pass : ℕ) (v : Option UnderWay) → AreBases runs bases → ((b : Option (List File)) → IsBase (under_at runs pass) b → IsBase v b) → AreBases (set runs pass v) bases
one_set [] [] pass v are step = tt
one_set [] (b ∷ bs) pass v are step = absurd are
one_set (u ∷ us) [] pass v are step = absurd are
one_set (u ∷ us) (b ∷ bs) zero v are step = (step b are.0, are.1)
one_set (u ∷ us) (b ∷ bs) (suc pass) v are step = (are.0, one_set us bs pass v are.1 step)

-- a request that goes on keeps its tree
goes_on : (under : Option UnderWay) (run : Option Run) (b : Option (List File)) → (run_in under ≡ None → run ≡ None) → IsBase under b → IsBase (seated run (tree_in under)) b
goes_on under None b none is = tt
goes_on None (Some run) b none is = absurd (let e : Some run ≡ None = none refl in cc)
goes_on (Some under) (Some run) b none is = is

-- and one that begins has the latest
begun_base : (run : Option Run) (tree : List File) → IsWithinLimits tree → IsBase (seated run tree) (Some tree)
begun_base None tree within = tt
begun_base (Some run) tree within = (refl, within)

module _ {P : Type 0} (made : P → List File → List ℕ → Type 0) (x : Opening) (s : State) (pass : ℕ) (bases : List (Option (List File))) where
  -- after an operation that is no Begin
  others : (o : Op) (r : Reply) → AreBases s.runs bases → base_after s.tree (tree_in (under_at s.runs pass)) o ≡ tree_in (under_at s.runs pass) → ((run : Option Run) → run ≡ None → run_after run o r ≡ None)
      → AreBases (set s.runs pass (under_after s.tree (under_at s.runs pass) o r)) bases
  others o r are same none =
      one_set s.runs bases pass (under_after s.tree (under_at s.runs pass) o r) are
      (λ b is.
      subst (λ t. IsBase (seated (run_after (run_in (under_at s.runs pass)) o r) t) b) (sym same)
      (goes_on (under_at s.runs pass) (run_after (run_in (under_at s.runs pass)) o r) b (λ e. none (run_in (under_at s.runs pass)) e) is))

  begin : (cookie : List ℕ) (moment : ℕ) (r : Reply) (gift : Gift P) → AreBases s.runs bases → IsWithinLimits s.tree → IsStart x s cookie (moment_after s.moment (op.Begin cookie moment)) gift
      → AreBases (set s.runs pass (under_after s.tree (under_at s.runs pass) (op.Begin cookie moment) r)) (bases_with true (base_in gift) pass bases)
  begin cookie moment r (Start tree attrs) are within is =
      subst (λ t. AreBases (set s.runs pass (under_after s.tree (under_at s.runs pass) (op.Begin cookie moment) r)) (set bases pass (Some t))) (sym is.0)
      (both_set s.runs bases pass (under_after s.tree (under_at s.runs pass) (op.Begin cookie moment) r) (Some s.tree) are
      (begun_base (run_after (run_in (under_at s.runs pass)) (op.Begin cookie moment) r) s.tree within))
  begin cookie moment r Nothing are within is = absurd is
  begin cookie moment r (Made v) are within is = absurd is
  begin cookie moment r (Id i) are within is = absurd is
  begin cookie moment r (Picture t a b) are within is = absurd is
  begin cookie moment r (Old t values) are within is = absurd is

  -- the trees are kept after an operation
  pub bases_on : (o : Op) (r : Reply) (gift : Gift P) → AreBases s.runs bases → IsWithinLimits s.tree → FitsGift made x s pass o r gift
      → AreBases (set s.runs pass (under_after s.tree (under_at s.runs pass) o r)) (bases_with (is_begin o) (base_in gift) pass bases)
  bases_on (op.Publish base edits) r gift are within fits = others (op.Publish base edits) r are refl (λ run none. none)
  bases_on (op.Begin cookie moment) r gift are within fits = begin cookie moment r gift are within fits
  bases_on (op.App request st) r gift are within fits = others (op.App request st) r are refl (λ run none. subst (λ u. run_after u (op.App request st) r ≡ None) (sym none) refl)
  bases_on (op.Fresh request) r gift are within fits = others (op.Fresh request) r are refl (λ run none. subst (λ u. run_after u (op.Fresh request) r ≡ None) (sym none) refl)
  bases_on (op.Fetch request path) r gift are within fits = others (op.Fetch request path) r are refl (λ run none. subst (λ u. run_after u (op.Fetch request path) r ≡ None) (sym none) refl)
  bases_on (op.Offer request path) r gift are within fits = others (op.Offer request path) r are refl (λ run none. subst (λ u. run_after u (op.Offer request path) r ≡ None) (sym none) refl)
  bases_on (op.End request attrs) r gift are within fits = others (op.End request attrs) r are refl (λ run none. refl)
  bases_on (op.Abandon request) r gift are within fits = others (op.Abandon request) r are refl (λ run none. refl)
  bases_on (op.Snapshot cookie) r gift are within fits = others (op.Snapshot cookie) r are refl (λ run none. none)
  bases_on op.Roll r gift are within fits = others op.Roll r are refl (λ run none. none)
