-- An Offer that may come has the tree of its request, and a file there.
use Rattle.std.proofs.Common.{◌≡◌, ℕ, ◌<◌, true, List, [], Option, Some, None, refl, sym, ap, subst, ◌∙◌}
use Rattle.std.specs.Prelude.{◌&&◌, nat_lt, slice_index_or, IsSome}
use Rattle.std.specs.Option.{option_map, is_some}
use Rattle.site_state.specs.Gifts.{IsMade}
use Rattle.site_words.proofs.Items.{and_left, and_right, lt_of}
use Rattle.site_words.proofs.Lasting.{run_is_own}
use Rattle.site_words.proofs.RunTree.{to_run_tree}
use Rattle.site_words.specs.Fits.{asks, finds, fits}
use Rattle.site_words.specs.Law.{Legal, own, run_of}
use Rattle.site_words.specs.Runs.{UnderWay, run_at, run_in, tree_in, under_at}
use Rattle.site_words.specs.State.{State, after}
use Rattle.site_words.specs.Trees.{Needs}
use Rattle.site_words.specs.declared.words.Entry.{Entry}
use Rattle.site_words.specs.declared.words.Op.{Op}
use Rattle.site_words.specs.declared.words.Op.TheVariants as op
use Rattle.site_words.specs.declared.words.Opening.{Opening}
use Rattle.source_tree.specs.Changed.{has_file}
use Rattle.source_tree.specs.Edits.{file_at}
use Rattle.source_tree.specs.Limits.{IsWithinLimits}
use Rattle.source_tree.specs.declared.file.File.{File}
use Rattle.unit_source.specs.Files.{text_in}
use Rattle.journal_entries.proofs.KeptBases.{base_at}
use Rattle.journal_entries.specs.Bases.{AreBases, IsBase}

text_of : (file : Option File) → is_some file ≡ true → IsSome (option_map (λ (f : File). f.text) file)
text_of None is = absurd (cc)
text_of (Some file) is = refl

-- the text of a file that is there
text_there : (tree : List File) (path : List ℕ) → has_file path tree ≡ true → IsSome (text_in tree path)
text_there tree path has = text_of (file_at path tree) has

-- the request under way for which something is offered, with its tree, which is kept
pub record HasBase (needs : Needs) (x : Opening) (history : List Entry) (pass : ℕ) (path : List ℕ) (base : Option (List File)) : Type 0 where
  pub under : UnderWay
  pub is : under_at (after needs x history).runs pass ≡ Some under
  pub kept : base ≡ Some under.tree
  pub limits : IsWithinLimits under.tree
  pub stands : IsSome (text_in under.tree path)
  pub below : pass < x.passes
  pub run : run_of (own pass history) ≡ Some under.run

pub has_base : (needs : Needs) (x : Opening) (history : List Entry) (bases : List (Option (List File))) (pass request : ℕ) (path : List ℕ) → fits x (after needs x history) pass (op.Offer request path) ≡ true
    → AreBases (after needs x history).runs bases → HasBase needs x history pass path (slice_index_or bases pass None)
has_base needs x history bases pass request path fit are = go (under_at s.runs pass) refl (base_at s.runs bases pass are) found
  where
    s : State
    s = after needs x history

    rest : (asks (run_at s.runs pass) (op.Offer request path) && (finds (under_at s.runs pass) (op.Offer request path) && true)) ≡ true
    rest = and_right (nat_lt pass x.passes) (asks (run_at s.runs pass) (op.Offer request path) && (finds (under_at s.runs pass) (op.Offer request path) && true)) fit

    below : pass < x.passes
    below = lt_of pass x.passes (and_left (nat_lt pass x.passes) (asks (run_at s.runs pass) (op.Offer request path) && (finds (under_at s.runs pass) (op.Offer request path) && true)) fit)

    found : has_file path (tree_in (under_at s.runs pass)) ≡ true
    found = and_left (finds (under_at s.runs pass) (op.Offer request path)) true (and_right (asks (run_at s.runs pass) (op.Offer request path)) (finds (under_at s.runs pass) (op.Offer request path) && true) rest)

    go : (under : Option UnderWay) → under_at s.runs pass ≡ under → IsBase (under_at s.runs pass) (slice_index_or bases pass None) → has_file path (tree_in (under_at s.runs pass)) ≡ true
        → HasBase needs x history pass path (slice_index_or bases pass None)
    go None is base has = absurd (let none : has_file path [] ≡ true = subst (λ u. has_file path (tree_in u) ≡ true) is has in cc)
    go (Some under) is base has =
        let kept : IsBase (Some under) (slice_index_or bases pass None) = subst (λ u. IsBase u (slice_index_or bases pass None)) is base in
        record {
          under = under;
          is = is;
          kept = kept.0;
          limits = kept.1;
          stands = text_there under.tree path (subst (λ u. has_file path (tree_in u) ≡ true) is has);
          below = below;
          run = sym (run_is_own needs x history pass below) ∙ ap run_in is;
        }

-- what is made of the page by this tree is what the Offer brings
pub offered : {P : Type 0} (made : P → List File → List ℕ → Type 0) (needs : Needs) (x : Opening) (history : List Entry) (pass request : ℕ) (path : List ℕ) (base : Option (List File)) (tree : List File) (value : P) → Legal needs x history
    → HasBase needs x history pass path base → base ≡ Some tree → made value tree path → IsMade made x history (run_of (own pass history)) (op.Offer request path) (Some value)
offered made needs x history pass request path base tree value legal has kept is =
    let same : Some has.under.tree ≡ Some tree = sym has.kept ∙ kept in
    let one : has.under.tree ≡ tree = cc in
    to_run_tree needs x history pass has.under.run (λ t. made value t path) legal has.below has.run
    (subst (λ u. made value (tree_in u) path) (sym has.is) (subst (λ t. made value t path) (sym one) is))

pub kept_none : (base : Option (List File)) (tree : List File) → base ≡ Some tree → None ≡ base → ⊥
kept_none base tree kept none = absurd (cc)

pub kept_some : (base : Option (List File)) (tree other : List File) → base ≡ Some tree → Some other ≡ base → other ≡ tree
kept_some base tree other kept some = cc

-- other operations bring nothing
pub brings_none : {P : Type 0} (made : P → List File → List ℕ → Type 0) (x : Opening) (history : List Entry) (pass : ℕ) (o : Op) → ((request : ℕ) (path : List ℕ) → o ≡ op.Offer request path → ⊥)
    → IsMade made x history (run_of (own pass history)) o None
brings_none made x history pass (op.Publish base edits) other = tt
brings_none made x history pass (op.Begin cookie moment) other = tt
brings_none made x history pass (op.App request st) other = tt
brings_none made x history pass (op.Fresh request) other = tt
brings_none made x history pass (op.Fetch request path) other = tt
brings_none made x history pass (op.Offer request path) other = other request path refl
brings_none made x history pass (op.End request attrs) other = tt
brings_none made x history pass (op.Abandon request) other = tt
brings_none made x history pass (op.Snapshot cookie) other = tt
brings_none made x history pass op.Roll other = tt
